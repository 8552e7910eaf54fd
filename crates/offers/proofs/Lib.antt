pub mod Scan
pub mod Reached
pub mod Leading
pub mod Narrowing
pub mod Rules
