pub mod Copying
pub mod Recording
