pub mod Times
pub mod Pairs
