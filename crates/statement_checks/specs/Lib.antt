pub mod BadEscapes
pub mod Bound
