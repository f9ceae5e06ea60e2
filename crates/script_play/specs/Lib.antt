pub mod Cutting
pub mod Playing
pub mod Unopened
