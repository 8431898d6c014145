pub mod Text
pub mod Skipping
pub mod Lines
pub mod Ending
