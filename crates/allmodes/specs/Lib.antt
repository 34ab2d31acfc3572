pub mod AllModes
