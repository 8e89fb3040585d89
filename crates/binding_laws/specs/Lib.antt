pub mod SeenDeclarations
pub mod OneSymbol
