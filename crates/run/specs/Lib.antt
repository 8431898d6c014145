pub mod States
pub mod Closings
pub mod Steps
pub mod Turns
pub mod Reports
pub mod Promise
