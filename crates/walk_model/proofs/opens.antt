-- The walk opens the scopes of the definitions, with their flags.
pub mod LeftByDeclaring
pub mod EvalFlags
pub mod EvalReach
pub mod OpenedScopes
pub mod OpenedAll
