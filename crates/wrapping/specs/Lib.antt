pub mod Order
pub mod Wrapped
pub mod Feed
pub mod Outcome
