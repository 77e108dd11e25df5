pub mod LexingLaws
pub mod LastLaws
pub mod NameSets
pub mod ReadableGrammar
pub mod Lawful
pub mod Judging
pub mod WorkedSections
