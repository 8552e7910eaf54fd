pub mod Bits
pub mod Words
pub mod Emptying
pub mod Ranges
pub mod Found
