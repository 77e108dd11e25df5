pub mod Statements
pub mod UpdateLists
pub mod Names
pub mod FittingMoves
pub mod PointLists
pub mod PointNames
pub mod ValidPrograms
