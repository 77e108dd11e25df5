-- what the contracts of this crate, and of those above it, cite
pub mod Lists
pub mod Texts
pub mod Limits
pub mod RoundTrips
-- values that were worked out by hand
pub mod Worked
