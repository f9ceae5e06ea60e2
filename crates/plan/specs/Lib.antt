pub mod States
pub mod Plans
