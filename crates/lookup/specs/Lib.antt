pub mod Columns
pub mod Unused
pub mod Row
