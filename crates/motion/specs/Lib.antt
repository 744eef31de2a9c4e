pub mod Routes
pub mod Trips
pub mod Bans
pub mod Stands
pub mod Listed
pub mod Refusals
pub mod BanTexts
