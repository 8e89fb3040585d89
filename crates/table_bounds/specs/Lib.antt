pub mod Tellable
