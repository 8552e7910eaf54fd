pub mod Comparison
pub mod Extremes
pub mod Weights
pub mod Profiles
pub mod Spreading
