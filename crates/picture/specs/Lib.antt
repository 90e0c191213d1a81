pub mod Picture
pub mod Outcomes
