pub mod Number
pub mod Nearest
