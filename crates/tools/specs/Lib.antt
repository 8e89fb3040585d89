pub mod Named
pub mod Ends
pub mod Usages
pub mod Runs
pub mod Served
