pub mod Hunting
