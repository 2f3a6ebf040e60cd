pub mod Good
pub mod Tells
pub mod Columns
