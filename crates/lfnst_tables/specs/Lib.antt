pub mod Lfnst4
pub mod Lfnst8
pub mod Lfnst
pub mod Line
