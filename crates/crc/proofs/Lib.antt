pub mod Entries
pub mod Xor
pub mod Shifts
pub mod Published
pub mod Homes
pub mod Bytes
