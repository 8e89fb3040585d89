pub mod WithName
pub mod Renamed
pub mod Same
pub mod Refusal
pub mod Fixed
pub mod Alone
