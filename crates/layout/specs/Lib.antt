pub mod Numbered
pub mod Heads
pub mod Commands
