-- What the search means: these are to be read.
pub mod Pairs
pub mod Rays
pub mod Fdist
pub mod Demand
-- This is not.
pub mod Requires
