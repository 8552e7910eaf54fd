pub mod State
pub mod Moves
pub mod Compare
