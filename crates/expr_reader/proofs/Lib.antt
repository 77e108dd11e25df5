-- The code's parser of expressions and guards agrees with the grammar of `expr_text`.
pub mod NameSets
pub mod StateNames
pub mod TermLaws
pub mod Numbers
pub mod Simulation
pub mod Standing
pub mod Endings
pub mod Room
pub mod AtomNames
pub mod LimitedFaults
pub mod AtomEnds
pub mod GuardTaking
pub mod GuardStops
pub mod WorkedValues
