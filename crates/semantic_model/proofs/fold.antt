-- What holds through the fold, change by change.
pub mod Actions
pub mod Changes
pub mod Soundness
pub mod TakeOvers
pub mod BodyChains
pub mod EachDeclared
pub mod Declared
pub mod Orders
