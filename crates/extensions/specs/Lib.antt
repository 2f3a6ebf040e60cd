pub mod Extensions
pub mod Fast
pub mod Strange
