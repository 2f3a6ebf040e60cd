pub mod Payloads
pub mod Sets
pub mod Held
pub mod FastSets
pub mod FirstSet
pub mod Moved
pub mod SameNames
