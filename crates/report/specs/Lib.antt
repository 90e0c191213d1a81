pub mod Totals
pub mod Given
