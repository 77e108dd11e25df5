-- what is known of the steps of a program
pub mod Grounds
-- lists of checks that hold
pub mod Refusals
-- expressions
pub mod Expressions
-- squares and lines
pub mod Squares
-- keys that ascend, what is paid, and parts of bounds
pub mod Keys
pub mod Amounts
pub mod Parts
-- charges that are taken from a list
pub mod Combining
-- what is known after lemmas
pub mod Never
-- what is checked of nodes, stage by stage
pub mod Stages
pub mod Phases
-- lists of lemmas
pub mod Lists
-- the crates below, which callers name through this one
pub use Rattle.potential_ground.specs as potential_ground
pub use Rattle.potential_types.specs as potential_types
pub use Rattle.never_rules.specs as never_rules
