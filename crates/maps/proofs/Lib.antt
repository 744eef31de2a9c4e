pub mod Members
pub mod Founding
pub mod Joining
pub mod Gridding
pub mod Sides
pub mod GridRows
