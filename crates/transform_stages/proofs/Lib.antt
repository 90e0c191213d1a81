pub mod Lines
pub mod Copying
pub mod Back
pub mod OneRow
pub mod Whole
