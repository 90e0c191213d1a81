pub mod Places
pub mod OneLine
pub mod TwoStages
pub mod RoomsFor
