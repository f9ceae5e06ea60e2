-- How slots are exchanged, what the new links hold, and what the calls ask and leave.
-- Assumes nothing.
pub mod Plan
pub mod Anew
pub mod Compact
pub mod Lent
