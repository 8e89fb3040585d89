-- Names that aren't tangled.
pub mod NamePlaces
pub mod PassedClauses
pub mod Untangled
pub mod CaughtVariables
pub mod HomesRound
pub mod NameChildren
pub mod NotedNames
pub mod LeavesAlone
pub mod OnceInRole
pub mod StrictUnder
pub mod PlainNames
