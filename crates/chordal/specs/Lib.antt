pub mod Chordal
pub mod Descent
pub mod Lists
pub mod Answer
