pub mod Digits
pub mod Texts
pub mod Writing
