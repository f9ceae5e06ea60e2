pub mod Turned
pub mod Replies
pub mod Took
