pub mod Transposition
pub mod Unused
pub mod Seen
pub mod Symmetry
pub mod Refused
