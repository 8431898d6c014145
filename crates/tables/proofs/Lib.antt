pub mod Found
pub mod Search
pub mod Steps
pub mod Free
pub mod Writes
pub mod Deleted
pub mod Puts
pub mod Laws
