-- Each node is noted once.
pub mod NodeIds
pub mod NameTimes
pub mod NamesInRole
pub mod QuietNames
pub mod LoneMembers
pub mod DeclaredTimes
pub mod DeclaredBelow
pub mod SymbolsOnce
pub mod NotedOnce
pub mod Weighing
