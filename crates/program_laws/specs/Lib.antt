pub mod Remarked
pub mod ReadMarks
pub mod SameAnalysis
pub mod SymbolNames
pub mod NamesAlike
