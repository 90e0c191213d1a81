mod SampleSizes
pub mod Samples
