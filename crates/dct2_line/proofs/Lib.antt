pub mod HalfRows
pub mod Stored
pub mod Joining
pub mod Four
pub mod InverseStep
pub mod ForwardStep
