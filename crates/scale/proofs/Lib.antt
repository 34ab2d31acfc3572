pub mod ScaleLaws
