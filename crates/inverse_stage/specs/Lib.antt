pub mod Given
pub mod Settled
