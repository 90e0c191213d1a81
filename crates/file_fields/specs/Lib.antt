pub mod Field
pub mod Cursor
pub mod Read
pub mod Body
