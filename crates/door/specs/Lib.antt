pub mod Served
pub mod Within
