-- Worked values, and the programs and the notation that they are written in.
pub mod WorkedNodes
pub mod WorkedPrograms
pub mod WorkedLoops
pub mod WorkedLemmas
pub mod WorkedOrder
pub mod WorkedShapes
pub mod WorkedCosts
