pub mod TrueLetters
pub mod Check
