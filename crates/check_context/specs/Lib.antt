pub mod Handed
pub mod Tells
pub mod Shown
pub mod Grandchildren
pub mod Sound
pub mod Leavable
pub mod Fitting
