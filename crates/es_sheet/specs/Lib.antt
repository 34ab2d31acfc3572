pub mod Page
pub mod Refusal
