-- References are tied to what the nearest scope binds.
pub mod ValueWays
pub mod ValueSymbols
pub mod NearestTies
