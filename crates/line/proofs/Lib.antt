pub mod Lent
pub mod Agreement
pub mod Unique
pub mod Answered
