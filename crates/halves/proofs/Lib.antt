pub mod ByHalves
pub mod Halved
pub mod Tables
