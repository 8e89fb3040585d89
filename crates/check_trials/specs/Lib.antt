pub mod Write
pub mod LoneBreak
