pub mod Shape
pub mod Keys
pub mod Values
pub mod Rules
pub mod Answer
pub mod Meets
pub mod Country
