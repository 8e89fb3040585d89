pub mod Checkable
