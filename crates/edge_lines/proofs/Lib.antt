pub mod Spanned
pub mod Numerals
pub mod Scanning
pub mod Choosing
pub mod Pairs
pub mod Said
pub mod Told
