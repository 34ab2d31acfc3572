pub mod Status
pub mod Outcome
pub mod Input
