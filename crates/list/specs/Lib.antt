pub mod Order
pub mod Links
pub mod Steps
pub mod Promises
pub mod Lent
pub mod Inspect
