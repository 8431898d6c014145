pub mod Read
pub mod Lines
pub mod Taking
pub mod Exactness
