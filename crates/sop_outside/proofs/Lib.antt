mod Examples
pub mod Appended
pub mod BlankWords
pub mod TextMaps
