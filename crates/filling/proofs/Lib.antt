pub mod Growing
pub mod Tail
