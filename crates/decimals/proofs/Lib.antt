pub mod Taking
pub mod Exactness
