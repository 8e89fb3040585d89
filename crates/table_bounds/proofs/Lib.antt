pub mod Lists
pub mod Nodes
pub mod Cursors
pub mod Chains
pub mod Declared
pub mod Symbols
pub mod Tables
