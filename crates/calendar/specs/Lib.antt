pub mod Days
pub mod Number
pub mod Difference
