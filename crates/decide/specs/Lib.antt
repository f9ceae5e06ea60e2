pub mod Views
pub mod Settled
pub mod Wants
pub mod Numbers
