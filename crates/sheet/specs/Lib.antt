pub mod Sheet
pub mod Lines
pub mod Written
pub mod Parsing
pub mod Answer
