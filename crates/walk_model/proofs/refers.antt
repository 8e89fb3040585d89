-- References that wait get the outcomes that their ties tell.
pub mod Lookups
pub mod Settling
pub mod Sources
pub mod HeaderEnds
pub mod EndScopes
pub mod EndOutcomes
pub mod TrackedReferences
pub mod Referred
pub mod ReferredSteps
pub mod GivesTables
