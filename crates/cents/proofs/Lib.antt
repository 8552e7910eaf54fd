pub mod Rounding
pub mod Cents
