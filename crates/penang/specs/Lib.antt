pub mod Penang
