pub mod Surroundings
pub mod Mention
pub mod Repeated
pub mod Tangled
