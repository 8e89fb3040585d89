-- Bodies of `with`.
pub mod BodyStatements
pub mod PastObjects
pub mod WithPrograms
pub mod WithRows
