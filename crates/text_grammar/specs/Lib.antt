-- The definitions that the contracts of this crate, and of crates above it, cite.
pub mod Grammars
pub mod Spelled
pub mod Leads
pub mod Sounding
pub mod Texts
pub mod Silence
pub mod Folds
pub mod Parts
pub mod ByteTexts
pub mod ByteParts
pub mod CodeBytes
pub mod Results
pub mod Views
pub mod Tabled
pub mod SmallRows
pub mod WorkedRows
pub mod SmallSigns
pub mod WorkedSigns
pub mod WorkedValues
pub mod Worked
pub mod Marks
pub mod Following
-- the crate below, which callers name through this one
pub use Rattle.text_core.specs as text_core
