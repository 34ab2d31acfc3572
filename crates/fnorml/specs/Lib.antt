pub mod Fnorml
