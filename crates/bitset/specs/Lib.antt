pub mod Below
pub mod Word
pub mod Matrix
