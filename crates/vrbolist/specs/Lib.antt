pub mod Told
pub mod Chains
pub mod Proposals
pub mod Rooms
pub mod Signers
pub mod Anchors
