pub mod Refusals
pub mod Faults
pub mod Printed
pub mod Parts
