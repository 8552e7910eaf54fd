pub mod Ranking
pub mod Choosing
