pub mod Denotes
pub mod Growth
pub mod Follows
pub mod Matches
pub mod Bounds
pub mod Sets
