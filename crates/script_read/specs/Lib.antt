pub mod Keywords
pub mod Words
pub mod Numerals
pub mod Grammar
pub mod Printing
pub mod Examples
