pub mod Texts
pub mod Meanings
