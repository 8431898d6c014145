pub mod Shifts
pub mod Lengths
