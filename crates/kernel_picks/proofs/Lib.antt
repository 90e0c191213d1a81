pub mod Cases
pub mod Picking
