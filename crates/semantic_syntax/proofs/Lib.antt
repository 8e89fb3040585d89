pub mod Every
pub mod Results
pub mod SameTexts
pub mod Truth
