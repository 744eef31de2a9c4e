pub mod Floor
pub mod Checks
pub mod Tests
pub mod Joins
pub mod Numbers
