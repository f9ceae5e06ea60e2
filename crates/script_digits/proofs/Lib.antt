pub mod Laying
pub mod Decimals
pub mod Writing
pub mod Values
