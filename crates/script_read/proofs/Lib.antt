pub mod Reading
pub mod Saying
pub mod Numeral
pub mod Roundtrip
