pub mod Rows
pub mod Sights
pub mod NameRows
pub mod TypeRows
pub mod ClassRows
pub mod RowsByKind
pub mod ClassElements
pub mod Told
