pub mod Refused
pub mod Again
pub mod Settled
