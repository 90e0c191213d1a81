pub mod Numbers
pub mod Back
