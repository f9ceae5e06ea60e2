pub mod Runs
pub mod Doors
pub mod Exported
pub mod Views
pub mod Counts
pub mod Demands
pub mod Samples
pub mod Impostors
