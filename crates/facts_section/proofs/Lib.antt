-- facts as expressions, and the strongest facts
pub mod FactValues
pub mod StrongestFacts
pub mod ImpliedFacts
-- the numbers of copies
pub mod CopyNumbers
-- lists as loops make them
mod CopyLists
pub mod CountedLists
mod WorkedFacts
