pub mod ChainLaws
pub mod LimitsLaws
pub mod RangeLaws
pub mod Signs
