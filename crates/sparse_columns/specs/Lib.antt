-- The specs that contracts of this crate and of other crates cite.
pub mod Order
pub mod Numbers
pub mod Wide
pub mod Ratios
pub mod Columns
