pub mod AsciiNames
pub mod BarredNames
