pub mod FilesReading
