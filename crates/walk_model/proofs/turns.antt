-- What a recursion knows before a node and between its children.
pub mod ChainsShown
pub mod ChainWays
pub mod HeaderStarts
pub mod KeptHeaderStarts
pub mod ChildTurns
pub mod TurnParts
pub mod RootSteps
pub mod Seats
pub mod WalkTurns
pub mod RowEvents
