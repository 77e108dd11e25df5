-- The specs that contracts of this crate and of other crates cite.
pub mod Narrow
pub mod Lowest
pub mod Fraction
pub mod Zero
