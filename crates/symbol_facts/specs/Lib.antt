-- facts at symbols, and which ones follow from those of copies
pub mod Facts
pub mod Common
pub mod Views
-- further definitions, for internal contracts
pub mod Tables
-- the law, and values that were worked out by hand
pub mod Laws
pub mod Worked
