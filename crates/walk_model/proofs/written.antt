-- The names that are collected bar what the definitions bar.
pub mod WrittenRows
pub mod WrittenNodes
pub mod OpenersFit
pub mod WrittenStands
pub mod ScopesAround
pub mod OwnOpeners
pub mod SloppyCode
pub mod NamesStand
