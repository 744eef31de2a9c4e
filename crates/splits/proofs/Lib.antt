pub mod Listing
pub mod CorridorSides
pub mod OwnLetters
