pub mod Left
pub mod Exact
pub mod Canonical
pub mod KindBytes
