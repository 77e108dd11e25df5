-- Laws of lists of cells, and of the steps of a merge.
pub mod Listings
pub mod Steps
pub mod OneListing
pub mod Indices
pub mod Insertions
