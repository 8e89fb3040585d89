-- Steps, one after the other.
pub mod Compose
pub mod Turn
pub mod Turns
pub mod Opened
pub mod OpenedFrom
pub mod EachStep
pub mod TurnCases
pub mod StepFolds
