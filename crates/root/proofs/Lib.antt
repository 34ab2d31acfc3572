pub mod NearestRootLaws
pub mod MidpointLaws
pub mod RootLaws
pub mod Floats
pub mod Squares
