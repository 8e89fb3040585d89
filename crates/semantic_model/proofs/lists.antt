-- Lists of bindings and symbols after a change.
pub mod Members
pub mod BindingLaws
pub mod SymbolLaws
pub mod Bounds
pub mod Growth
