mod Lengths
mod Headers
pub mod RoundTrip
pub mod Unique
