-- What the functions mean: these are to be read.
pub mod Look
pub mod Walk
pub mod Inputs
pub mod Kinds
pub mod Rows
pub mod Checks
pub mod Findf
pub mod Demand
-- This is not.
pub mod Requires
