pub mod PlaceLaws
pub mod Demand3Laws
pub mod KindsLaws
