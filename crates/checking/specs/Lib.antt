pub mod OpenBranches
pub mod Kept
pub mod ShownRoutes
pub mod Books
pub mod CallsMade
pub mod Checks
pub mod Runs
