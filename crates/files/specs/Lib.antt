pub mod Judging
pub mod Orders
pub mod Reading
pub mod Readers
