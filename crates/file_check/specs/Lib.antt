pub mod Asked
pub mod Codes
pub mod Telling
pub mod Meaning
