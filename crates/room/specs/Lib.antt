pub mod Kept
pub mod Making
pub mod Inner
