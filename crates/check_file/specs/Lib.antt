-- The premises of nodes.
pub mod Children
-- why lemmas are refused
pub mod Faults
pub mod Refusing
-- plain nodes
pub mod Singles
pub mod Writables
pub mod Zeros
-- lemmas
pub mod Judging
-- counts of nodes
pub mod Counts
-- files
pub mod Files
pub mod WorkedFiles
