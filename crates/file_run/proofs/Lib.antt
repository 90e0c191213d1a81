pub mod Unique
pub mod Turns
pub mod Advances
pub mod Fuel
pub mod Counted
mod Loop
pub mod Printed
pub mod Numbers
