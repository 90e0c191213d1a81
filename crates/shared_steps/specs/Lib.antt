pub mod Folds
pub mod Lines
pub mod Steps
