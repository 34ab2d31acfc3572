pub mod Order
pub mod RoundedLaws
pub mod RunLaws
pub mod ScaledLaws
mod Magnitude
