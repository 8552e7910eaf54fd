pub mod Spans
pub mod Decimals
pub mod Named
pub mod ReadBack
pub mod Lengths
pub mod Writing
pub mod Telling
pub mod Sentences
