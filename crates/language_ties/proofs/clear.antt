-- Which names keep clear.
pub mod LexicalNames
pub mod SingleNames
pub mod ParameterPlaces
pub mod PassedScopes
pub mod HowDeclared
pub mod UnclashedNames
