pub mod Summing
pub mod Laid
