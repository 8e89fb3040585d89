pub mod Both
pub mod Tested
