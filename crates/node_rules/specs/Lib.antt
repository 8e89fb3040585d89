pub mod BoundIdentifiers
pub mod Seen
