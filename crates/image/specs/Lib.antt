pub mod Items
pub mod Index
pub mod Rules
pub mod Answer
pub mod Reading
pub mod Chosen
