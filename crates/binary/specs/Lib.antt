pub mod EventKinds
pub mod Binary
pub mod Writing
pub mod Canonical
pub mod Ends
