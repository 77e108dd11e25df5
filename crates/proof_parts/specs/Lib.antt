-- lines, the words that they begin with, and the first line of a file
pub mod Lines
pub mod Kinds
pub mod Head
-- the parts of a file, and the laws of cuts
pub mod Parts
pub mod Views
pub mod Laws
-- values that were worked out by hand
pub mod Worked
