pub mod Floors
pub mod Trips
