pub mod Agreed
pub mod Samples
