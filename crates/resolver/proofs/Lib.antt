pub mod Chain
pub mod Asking
pub mod NamedArguments
pub mod Kept
pub mod NonePending
pub mod Batches
