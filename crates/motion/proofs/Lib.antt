pub mod Stepping
pub mod Listing
pub mod Conflicting
pub mod Reading
