-- Worked values, computed.
pub mod WorkedLoops
pub mod WorkedLemmas
pub mod WorkedOrder
pub mod WorkedShapes
pub mod WorkedCosts
