pub mod Ascii
pub mod Lines
pub mod NoFault
