pub mod Payloads
pub mod Within
pub mod PartLaws
pub mod PlaceLaws
pub mod PairLaws
pub mod Readable
pub mod ItemsOver
pub mod Theorems
