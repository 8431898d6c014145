pub mod Kinds
pub mod Examples
pub mod Measures
