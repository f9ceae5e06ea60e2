-- The laws of exchanging, planning, writing and resizing; those for callers are in Laws.
-- Assumes nothing.
pub mod Renaming
pub mod Exchanging
pub mod Numbering
pub mod Planning
pub mod Writing
pub mod Ascending
pub mod Compacting
pub mod Resizing
pub mod Laws
