pub mod Columns
pub mod Entry
