pub mod Pairing
pub mod Whole
