pub mod Trust
pub mod Lists
pub mod Answers
