pub mod Reading
pub mod Writing
pub mod Putting
pub mod Exactness
pub mod Fronts
