pub mod Turning
pub mod Replying
