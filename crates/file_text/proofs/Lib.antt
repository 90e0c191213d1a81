pub mod Writing
pub mod Digits
mod Spaced
