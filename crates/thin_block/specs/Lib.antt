pub mod Thin
pub mod Handed
pub mod Given
