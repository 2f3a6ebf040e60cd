pub mod Days
pub mod Number
pub mod Table
pub mod Signed
pub mod Between
pub mod Theorems
