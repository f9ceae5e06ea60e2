pub mod Views
pub mod Written
pub mod Answers
pub mod Lent
