-- what the contracts of this crate, and of those above it, cite
pub mod Copies
pub mod Counted
pub mod Needed
-- views for the internal functions
pub mod Lists
-- worked values
pub mod Worked
