pub mod Told
pub mod Places
pub mod Capitals
pub mod Theorems
