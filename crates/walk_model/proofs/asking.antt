-- A walk asks as many scopes as the look-ups of the program.
pub mod LookupCosts
pub mod LeftToAsk
pub mod EndCosts
pub mod StepCosts
pub mod StepSums
pub mod TurnCosts
pub mod Depths
pub mod Examples
