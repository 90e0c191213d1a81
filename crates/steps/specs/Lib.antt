pub mod Steps
pub mod Numbers
pub mod Outcome
pub mod Lists
pub mod Counted
