pub mod Completing
pub mod Searching
