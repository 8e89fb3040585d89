-- Names are only compared: a program with changed names has the changed tables.
pub mod Alike
pub mod AlikeCursor
pub mod AlikeScopes
pub mod AlikeSteps
pub mod AlikeProgram
pub mod AlikeNames
pub mod AlikeNamespace
pub mod AlikeBinder
pub mod AlikeDeclares
pub mod AlikeEvents
pub mod AlikeFold
pub mod AlikeTies
pub mod AlikeStates
pub mod AlikeNodes
