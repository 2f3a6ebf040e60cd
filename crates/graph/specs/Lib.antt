pub mod Chains
pub mod Answer
pub mod Records
pub mod Search
pub mod Rounds
