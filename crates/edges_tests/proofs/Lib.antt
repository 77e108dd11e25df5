-- a count that never rises
pub mod NoRise
