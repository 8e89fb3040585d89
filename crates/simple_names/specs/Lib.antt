pub mod Telling
pub mod TakenNames
pub mod NextNames
