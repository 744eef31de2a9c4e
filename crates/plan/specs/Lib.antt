pub mod Faults
pub mod Headings
pub mod Commands
pub mod Cursors
pub mod Reading
pub mod Layout
pub mod FirstFault
pub mod SoundAndComplete
