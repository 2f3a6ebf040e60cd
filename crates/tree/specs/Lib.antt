pub mod Tree
pub mod Reordered
