pub mod Decimals
pub mod Examples
