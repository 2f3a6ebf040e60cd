pub mod Places
pub mod Countries
pub mod Shown
pub mod Serial
