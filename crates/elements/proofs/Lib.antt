pub mod Payloads
pub mod Members
pub mod Enclosed
pub mod Shorts
pub mod Tags
