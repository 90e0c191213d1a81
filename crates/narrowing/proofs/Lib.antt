pub mod Unread
pub mod Reading
