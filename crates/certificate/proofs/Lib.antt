pub mod Payloads
pub mod Held
pub mod Inside
pub mod Runs
pub mod Theorems
pub mod Lone
pub mod Compared
