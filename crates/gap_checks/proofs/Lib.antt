-- The checks of a gap find its first fault: its shape, its points and its balances.
pub mod GapFaults
pub mod GapPositions
pub mod GapShapes
pub mod GapValues
pub mod FirstFaults
pub mod Balances
pub mod TouchLists
pub mod TouchSums
pub mod SymbolsInOrder
pub mod ShutRows
pub mod Sums
