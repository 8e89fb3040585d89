pub mod ProgramTrees
pub mod Programs
pub mod Rows
