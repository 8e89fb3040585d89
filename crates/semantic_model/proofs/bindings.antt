-- Each binding is its symbol's.
pub mod NearestVar
pub mod VarTargets
pub mod Owners
pub mod BindingsKept
pub mod Owned
