pub mod Taking
pub mod Listing
