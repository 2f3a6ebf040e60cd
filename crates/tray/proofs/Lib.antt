pub mod Told
pub mod Fields
pub mod Turns
pub mod Answers
pub mod Theorems
