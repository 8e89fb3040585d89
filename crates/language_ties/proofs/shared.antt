-- Declarations of one name that keep clear of each other share symbols.
pub mod Shared
pub mod Declares
pub mod Ways
pub mod PlainNodes
pub mod DeclaredFlags
pub mod Numbers
pub mod Events
pub mod Runs
pub mod HomesShared
