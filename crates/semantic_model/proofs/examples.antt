-- Small programs, computed.
pub mod SmallPrograms
pub mod ComputedTables
