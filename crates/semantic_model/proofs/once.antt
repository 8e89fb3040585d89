-- Each reference stands in one list, once.
pub mod Headers
pub mod HeadersEndOnce
pub mod SettledOnce
pub mod UseLists
pub mod StandOnce
pub mod ListedUnder
pub mod TiedByName
pub mod ReferencesStand
