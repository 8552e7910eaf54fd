pub mod Outside
pub mod Seen
pub mod Tried
pub mod Front
