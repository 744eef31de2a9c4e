pub mod Lets
pub mod BanLists
pub mod Rows
pub mod Pushes
pub mod Sums
pub mod Least
pub mod Meaning
pub mod Workspaces
