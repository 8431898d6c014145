pub mod Rules
pub mod Streams
pub mod Layers
pub mod RowRules
pub mod Laws
pub mod Examples
