mod Reading
mod Unread
pub mod NothingBarred
