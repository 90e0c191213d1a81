pub mod Weighed
pub mod Written
