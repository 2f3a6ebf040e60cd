pub mod Picked
pub mod PickedAnswers
pub mod Stores
pub mod Columns
pub mod Answers
