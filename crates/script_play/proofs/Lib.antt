pub mod Cut
pub mod Room
pub mod Playing
pub mod Unopened
