pub mod Binding
pub mod Ones
pub mod Courses
pub mod Steps
pub mod Exact
pub mod ByKind
