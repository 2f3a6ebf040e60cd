pub mod Tests
pub mod Turns
pub mod Picked
pub mod Ascends
pub mod Theorems
