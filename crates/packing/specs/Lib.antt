pub mod Collecting
pub mod Packing
