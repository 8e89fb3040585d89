pub mod Tally
pub mod FreeReference
pub mod Lending
pub mod Shown
pub mod Given
