pub mod Graphs
pub mod Answers
