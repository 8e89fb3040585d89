pub mod Seen
pub mod Checks
pub mod LinkLines
pub mod Interned
pub mod Names
pub mod Views
pub mod Entries
