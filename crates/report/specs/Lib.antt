pub mod Faults
pub mod Files
pub mod SoundAndComplete
pub mod Memories
