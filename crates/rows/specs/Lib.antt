pub mod Times
pub mod Spans
pub mod Kinds
pub mod Rows
pub mod Events
pub mod Printed
