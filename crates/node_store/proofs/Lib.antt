pub mod Frames
pub mod KindBits
pub mod KindOrder
pub mod Paths
pub mod Rests
pub mod Ways
pub mod Walking
pub mod Following
