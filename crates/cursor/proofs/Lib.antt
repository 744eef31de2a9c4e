pub mod Words
pub mod Commands
