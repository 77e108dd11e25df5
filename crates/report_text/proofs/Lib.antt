-- the lines of lists, one by one
pub mod Lists
-- the entries of an outcome, and those of its report
pub mod Entries
-- texts that determine their subject: numbers, lists, points, limit hits, symbols' places, gaps and reasons
pub mod DistinguishedTexts
pub mod Digits
pub mod Commas
pub mod Points
pub mod Questions
pub mod SymbolNames
pub mod GapLines
pub mod ReasonLines
-- lines that are numbered, with bounds, entries and reasons
pub mod Numbered
pub mod BoundLines
pub mod EntryLines
pub mod WhyLines
-- a text states at most one report
pub mod OneReport
-- small texts worked out by hand
pub mod WorkedTexts
