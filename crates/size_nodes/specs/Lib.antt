-- members of a program
pub mod Members
-- members grouped by their rules
-- the sizes that side bounds read, and the first bound that isn't known
pub mod Needs
-- the flows into the members of a loop
pub mod Flows
-- the growth by its rules
pub mod Growths
-- the side bounds that read members
pub mod NonlinearSideBounds
-- the answer on a size, apart from the lemmas of its premises
pub mod Sizings
