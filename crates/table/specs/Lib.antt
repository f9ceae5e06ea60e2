pub mod Cells
pub mod Sound
pub mod Orders
pub mod Links
pub mod Acts
