pub mod LowFrequency
pub mod Work
