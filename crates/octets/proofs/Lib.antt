pub mod Likeness
pub mod Weights
