-- The identifiers of an environment have one symbol.
pub mod SymbolNumbers
pub mod OneSymbol
