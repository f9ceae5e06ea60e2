pub mod Placed
pub mod Fitting
pub mod Likeness
