pub mod Beyond
pub mod Lines
