pub mod WellFormed
pub mod Answered
pub mod Holding
pub mod Following
pub mod Telling
pub mod Comparing
pub mod OpenWalk
pub mod NothingBarred
