pub mod NoteLists
pub mod WrittenNames
