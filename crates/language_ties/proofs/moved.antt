-- Functions that leave their blocks.
pub mod ClauseFlags
pub mod Settled
pub mod LeavingFunctions
pub mod OnWays
pub mod FirstMade
pub mod BlockMeanings
