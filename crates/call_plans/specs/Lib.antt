-- what calls are: statuses, kinds of text, plans, and the answers of a plan
pub mod Numbers
pub mod Sorts
pub mod Calls
pub mod Kinds
pub mod Gives
pub mod OnFiles
pub mod Plans
pub mod Meanings
pub mod Endings
pub mod Lawful
-- values that were worked out by hand
pub mod Worked
pub mod WorkedPairs
-- definitions that only contracts of private functions cite
pub mod Steps
