-- Own names of function and class expressions.
pub mod OpenedNodes
pub mod OwnIds
pub mod PassedClasses
pub mod OwnBounds
pub mod AnyBounds
pub mod OwnSymbols
pub mod ClasslessNames
