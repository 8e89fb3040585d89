pub mod Codes
pub mod Lines
pub mod Words
pub mod Telling
pub mod Meaning
