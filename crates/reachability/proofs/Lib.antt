pub mod Lists
pub mod Marks
pub mod Closing
pub mod Pairs
pub mod Computed
pub mod Distinct
pub mod Within
