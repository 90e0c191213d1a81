pub mod Stages
pub mod Alone
