pub mod PageLaws
pub mod NumberTexts
pub mod FieldLaws
