pub mod Answers
pub mod Halves
pub mod Queries
