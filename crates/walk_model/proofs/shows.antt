-- Tables show a state of the definitions, and each small change keeps that.
pub mod BindingLists
pub mod SymbolLists
pub mod Represents
pub mod ShownChanges
pub mod ShownHoists
pub mod ShownTakeOvers
