pub mod Lines
pub mod Inputs
pub mod Exact
pub mod Printed
