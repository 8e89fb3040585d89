pub mod Denoted
pub mod Followed
pub mod Described
