pub mod ProtoKeys
pub mod Verdicts
pub mod Ways
pub mod Searches
pub mod Entries
pub mod Predecessors
pub mod SoundElements
