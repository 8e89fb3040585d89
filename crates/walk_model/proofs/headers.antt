-- What stands in headers, and that what they see at their end stays.
pub mod NoStatements
pub mod HeaderParts
pub mod Headed
pub mod HeadedBelow
pub mod HeadedProgram
pub mod Sides
pub mod OtherSide
pub mod TouchedScopes
pub mod Frozen
