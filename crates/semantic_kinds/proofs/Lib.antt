pub mod Ascii
pub mod Words
mod Named
pub mod KindNames
pub mod RoleNames
pub mod MarkNames
pub mod ByLength
pub mod MarkLaws
pub mod AllowedBits
