pub mod Told
pub mod Limits
