pub mod Why
pub mod Work
