pub mod Names
pub mod Fast
pub mod Country
