pub mod RefusalLaws
pub mod PageLaws
