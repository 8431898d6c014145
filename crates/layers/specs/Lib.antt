pub mod Told
pub mod Lawful
