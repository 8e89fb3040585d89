-- References in the headers of functions that bind their names.
pub mod HeaderShape
pub mod Sides
pub mod Paired
pub mod HeaderAnswers
pub mod ListsOnce
pub mod PatternShape
pub mod InExpressions
pub mod HeaderPrograms
pub mod HeaderRows
