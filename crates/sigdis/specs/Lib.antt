pub mod Prbmuf
