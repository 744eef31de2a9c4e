pub mod Words
pub mod Rests
pub mod Commands
pub mod Exactly
