pub mod GoodTypes
pub mod Places
pub mod Repeats
