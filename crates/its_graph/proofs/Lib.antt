-- Laws of reachability, of sets of rules and of strongly connected components, and worked values.
pub mod Elements
pub mod PaintedNodes
pub mod Filling
pub mod Routes
pub mod SharedLeaders
pub mod NamedParts
pub mod SameSets
pub mod TakingClasses
pub mod Naming
pub mod Sorting
pub mod KeySets
pub mod AllLeadersListed
pub mod OwnLeaders
pub mod PairLists
pub mod LeaderNeeds
pub mod Membership
pub mod EdgeTables
pub mod Occurrences
pub mod Totals
pub mod Uniqueness
pub mod Numbering
pub mod Reaching
pub mod KeptLinks
pub mod Arrivals
pub mod SetMembers
pub mod InnerLinks
pub mod SymbolLaws
mod ListedNodes
mod WorkedLoop
mod WorkedBackward
mod WorkedComponents
mod WorkedParts
