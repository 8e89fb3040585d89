pub mod Unnoted
pub mod WholeProgram
pub mod Adding
