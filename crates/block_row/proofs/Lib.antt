mod Spans
mod Listed
mod Lengths
mod Passed
mod Made
mod Answers
pub mod OneByOne
pub mod NearExact
pub mod Unique
