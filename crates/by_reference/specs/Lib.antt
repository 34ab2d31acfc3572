pub mod ByReference
