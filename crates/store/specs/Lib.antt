pub mod State
pub mod Caches
pub mod Lengths
pub mod Acts
