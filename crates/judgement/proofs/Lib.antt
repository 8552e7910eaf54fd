pub mod Writing
pub mod Cut
