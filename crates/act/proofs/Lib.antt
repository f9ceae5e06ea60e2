pub mod Deciding
pub mod Placing
pub mod Stepping
pub mod Handing
