-- Tables and language agree on names that are bound plainly.
pub mod KnownNodes
pub mod MadeEnvironments
pub mod FamiliarPlaces
pub mod PlainBounds
pub mod ClassBounds
pub mod FunctionKinds
pub mod Identifiers
pub mod KnownBounds
pub mod Answers
pub mod PlaceAgreement
pub mod SeenPlaces
pub mod ScopeAnswers
pub mod ClauseBlocks
pub mod Agreeing
pub mod AgreeingUses
pub mod Differing
