pub mod Sixteen
pub mod FourByFour
pub mod Unique
