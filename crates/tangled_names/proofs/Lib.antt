pub mod Beyond
pub mod Keys
pub mod Passed
pub mod SpelledKeys
pub mod Tangling
pub mod Words
