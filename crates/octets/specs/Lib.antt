pub mod Octets
pub mod Alike
