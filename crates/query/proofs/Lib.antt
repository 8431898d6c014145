pub mod Events
pub mod Exact
