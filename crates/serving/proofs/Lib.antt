pub mod Steps
pub mod Exchanges
pub mod Wholes
