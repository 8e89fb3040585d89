-- The form of a program: clauses end with their body, parameters stand in lists of functions.
pub mod Clauses
pub mod PartsHold
pub mod ParameterShape
pub mod ParameterChains
pub mod Shape
