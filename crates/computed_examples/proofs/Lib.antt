pub mod Comparisons
pub mod Sentences
pub mod EdgeFiles
