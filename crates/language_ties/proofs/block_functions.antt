-- Functions in blocks.
pub mod StrictPlaces
pub mod StrictScopes
pub mod StayingFunctions
