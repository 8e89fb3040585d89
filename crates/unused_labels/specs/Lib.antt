pub mod LabelStack
pub mod Labelling
pub mod LabelSteps
pub mod OpenNames
pub mod OpenPlaces
