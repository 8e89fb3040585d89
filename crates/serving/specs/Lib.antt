pub mod Requests
pub mod Reads
pub mod Serving
