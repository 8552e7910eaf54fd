pub mod Store
pub mod Steps
pub mod Place
pub mod Fault
pub mod Choice
