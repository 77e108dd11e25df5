-- command lines and their requests
pub mod Lines
pub mod Numerals
pub mod Requests
pub mod Usage
-- laws, and values that were worked out by hand
pub mod Laws
pub mod Worked
-- definitions that only contracts of private functions cite
pub mod Views
pub mod Steps
