pub mod Unique
pub mod Shapes
mod Tests
mod Refusals
pub mod Whole
pub mod Found
pub mod Body
