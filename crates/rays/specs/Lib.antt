pub mod Rays
