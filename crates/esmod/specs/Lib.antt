pub mod Esmod
