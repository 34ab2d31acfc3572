-- What the root means, and what is asked of it: these are to be read.
pub mod Root
pub mod Asked
-- This is not.
pub mod Requires
