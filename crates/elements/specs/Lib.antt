pub mod Elements
pub mod Envelope
pub mod Steps
pub mod Short
