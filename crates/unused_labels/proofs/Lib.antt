pub mod Innermost
pub mod Places
pub mod Used
pub mod Walked
pub mod StepsWalked
