-- The specs that contracts of this crate and of other crates cite.
pub mod Listing
pub mod Merging
