pub mod ListLaws
pub mod WordsLaws
pub mod Rests
pub mod FromFn
pub mod Nan
