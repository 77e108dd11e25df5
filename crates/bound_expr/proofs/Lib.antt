-- Laws of values, caps, substitution and numbers of bounds.
pub mod Views
pub mod Lists
pub mod Caps
pub mod Steps
pub mod Substitutions
pub mod Monotone
pub mod Nodes
pub mod PartLists
pub mod WorkedValues
