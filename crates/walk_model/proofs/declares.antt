-- The walk declares what the definitions say.
pub mod Simulated
pub mod PureSymbols
pub mod DeclaredAll
