pub mod Levels
pub mod Tiles
pub mod Across
pub mod Stored
