pub mod Counting
pub mod Sizes
pub mod LentBeside
pub mod Lookups
pub mod Pushing
pub mod GivenSteps
