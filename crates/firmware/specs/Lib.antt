pub mod Plan
pub mod Code
