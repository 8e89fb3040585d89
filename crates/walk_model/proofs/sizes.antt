-- Tables are as large as the definitions say, and ids never run out.
pub mod Scopes
pub mod References
pub mod SymbolNodes
pub mod Declarers
pub mod MadeOnce
pub mod Fewer
pub mod Symbols
pub mod InSteps
pub mod Growth
pub mod Rooms
pub mod ProgramRoom
