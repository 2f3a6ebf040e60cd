pub mod Payloads
pub mod Cut
pub mod Stays
pub mod Fitting
pub mod Making
