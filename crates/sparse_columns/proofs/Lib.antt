-- Laws of the numbers of cells by row, and of numbers while they are computed.
pub mod Lookups
pub mod Merging
pub mod Quotients
pub mod RowSums
pub mod Inserts
