pub mod RuleWords
pub mod SwappedRows
pub mod SwappedSight
pub mod SwappedPrograms
