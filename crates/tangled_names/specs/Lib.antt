pub mod Gathered
pub mod Stored
pub mod Asked
pub mod Facts
pub mod Found
