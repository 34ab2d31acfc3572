pub mod EachLaws
pub mod RowLaws
