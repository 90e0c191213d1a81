pub mod Splice
pub mod Kernel
pub mod Strips
pub mod Groups
pub mod Rooms
pub mod Fitting
pub mod Flat
pub mod Block
