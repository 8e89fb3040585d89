pub mod Found
pub mod Report
pub mod Requests
pub mod Codes
