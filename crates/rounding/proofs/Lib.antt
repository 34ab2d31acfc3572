pub mod DecimalsLaws
pub mod ValueLaws
