-- Names that catch clauses bind.
pub mod ClausePlaces
pub mod CalmPlaces
pub mod BodyPlaces
pub mod CaughtBounds
pub mod CaughtNames
pub mod PassedBodies
pub mod InClauses
pub mod CaughtOnce
