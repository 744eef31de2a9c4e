pub mod Rights
pub mod OpeningTests
pub mod KeptRoutes
pub mod Exits
pub mod Calling
pub mod SoundAndComplete
pub mod Running
