pub mod Tried
pub mod AfterJudge
