pub mod Numbers
pub mod Rules
pub mod Words
