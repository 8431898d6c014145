pub mod Cuts
pub mod FieldCuts
pub mod Skips
pub mod LineCuts
pub mod Letters
