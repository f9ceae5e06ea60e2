pub mod Refusing
pub mod Wanting
pub mod Pointing
pub mod Finding
pub mod Putting
pub mod Weighing
pub mod Ends
pub mod Arms
