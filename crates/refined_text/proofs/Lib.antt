pub mod Outcomes
pub mod Decided
pub mod Accepted
pub mod Placed
pub mod Steps
pub mod Lines
pub mod WorkedOutcomes
