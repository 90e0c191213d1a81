pub mod Square
pub mod Weighing
