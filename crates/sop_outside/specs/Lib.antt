pub mod Blanks
pub mod Causes
pub mod Told
pub mod Load
pub mod MemFiles
pub mod MemSink
pub mod TextMaps
