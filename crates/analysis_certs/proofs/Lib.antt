-- symbols and places of rules
mod RulePlaces
-- nodes, lemmas and gaps that are accepted are within the limits
mod NodesWithin
mod LemmasWithin
mod GapsWithin
-- shut places of gaps
mod ShutPlaces
-- the law
pub mod ProvedFiles
