pub mod ReadableGrammar
pub mod LawfulLines
pub mod JudgedLines
pub mod ClosedBounds
pub mod SymbolLists
pub mod WorkedTexts
