pub mod Analysis
pub mod Kept
pub mod SwappedNames
pub mod Analysed
