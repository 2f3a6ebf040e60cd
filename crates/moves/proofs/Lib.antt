pub mod Filled
pub mod Moves
pub mod Ready
pub mod Theorems
