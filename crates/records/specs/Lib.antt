pub mod Saving
pub mod Into
