pub mod Floats
pub mod Numbers
pub mod Run
