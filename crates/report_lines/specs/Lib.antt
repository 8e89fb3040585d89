pub mod Pieces
pub mod TableLines
pub mod ClassLines
pub mod CountLines
pub mod FreeNames
pub mod DiagnosticLine
pub mod Rows
pub mod Made
