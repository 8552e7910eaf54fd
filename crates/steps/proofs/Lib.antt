pub mod Representation
pub mod Tallying
pub mod Tracking
pub mod Replaying
pub mod Placing
