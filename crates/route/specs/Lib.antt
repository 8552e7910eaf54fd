pub mod Tree
pub mod Path
pub mod WayBack
