pub mod Text
pub mod Decimal
pub mod Sentence
pub mod Answer
pub mod Reading
