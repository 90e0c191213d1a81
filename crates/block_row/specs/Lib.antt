pub mod Numbers
pub mod Row
pub mod Calls
