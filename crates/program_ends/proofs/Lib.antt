pub mod Inputs
pub mod Meanings
pub mod Endings
pub mod Answering
pub mod Faults
pub mod Findings
