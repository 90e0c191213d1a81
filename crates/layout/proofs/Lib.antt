pub mod Looking
pub mod Zipping
pub mod Alive
pub mod Inside
pub mod Hunting
