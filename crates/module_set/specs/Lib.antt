pub mod SetForm
pub mod Views
pub mod Outcome
pub mod Reading
