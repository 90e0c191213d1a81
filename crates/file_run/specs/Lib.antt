pub mod Run
pub mod Does
