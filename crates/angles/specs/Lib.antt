-- What the functions mean, and what is asked of them: these are to be read.
pub mod Series
pub mod SinCos
pub mod Least
pub mod Grid
pub mod Arcsine
pub mod Arccosine
pub mod Arctangent
pub mod SinCosAsked
pub mod Bound
pub mod Width
-- These are not.
pub mod Requires
