pub mod FileLaws
pub mod FoundLaws
