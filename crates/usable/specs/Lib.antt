pub mod Items
pub mod Usable
pub mod Steps
pub mod Table
pub mod Country
pub mod Rows
