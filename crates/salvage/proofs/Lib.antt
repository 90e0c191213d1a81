pub mod Unique
mod Moves
mod Searching
pub mod Fuel
mod Joining
pub mod Cover
mod Lengths
mod Refused
pub mod Undamaged
mod Elsewhere
pub mod Again
pub mod Effort
pub mod Numbers
