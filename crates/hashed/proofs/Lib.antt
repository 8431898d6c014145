pub mod Listed
pub mod Held
pub mod Changes
pub mod State
pub mod Purges
pub mod Updates
pub mod Ends
