pub mod Machine
pub mod Records
pub mod Answer
pub mod Listing
