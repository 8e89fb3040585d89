-- The tables of a program fit it.
pub mod FitParts
pub mod Outwards
pub mod NothingInvented
pub mod TablesFit
pub mod Afterwards
