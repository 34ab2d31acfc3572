pub mod Line
pub mod Ask
