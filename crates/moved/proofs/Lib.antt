pub mod LettersApart
pub mod Theorems
