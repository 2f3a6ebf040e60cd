pub mod Tables
pub mod Queue
