-- A declaration that meets no other has its own symbol, bound in its home alone.
pub mod Alone
pub mod Fresh
pub mod Homes
pub mod BodyFollows
pub mod PlacesFollowed
pub mod Targets
pub mod Homecoming
pub mod OwnSymbol
