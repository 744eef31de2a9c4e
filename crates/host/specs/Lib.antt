pub mod Outcomes
pub mod Entry
