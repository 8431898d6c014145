pub mod Groups
pub mod Puts
pub mod Examples
