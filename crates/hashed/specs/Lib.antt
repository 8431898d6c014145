pub mod Listing
pub mod Model
pub mod Laws
