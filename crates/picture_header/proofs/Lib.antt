pub mod Tests
pub mod Reading
pub mod Variants
pub mod Unique
