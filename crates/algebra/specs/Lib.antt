pub mod Equal
pub mod Sum
pub mod Shift
pub mod Clip
pub mod Lists
pub mod First
pub mod Refusals
