pub mod Module
pub mod Imports
pub mod Exports
pub mod Leads
pub mod Outcome
pub mod Refusal
pub mod Computed
