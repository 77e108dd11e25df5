-- Laws of grammars and their tables, of the reader, of derivations and printed texts, and of texts in bytes.
pub mod Tests
pub mod Events
pub mod ClassLeadLaws
mod RuleLaws
pub mod TableLaws
pub mod Readable
pub mod ReadableParts
pub mod Parsing
pub mod Completing
pub mod ReaderLaws
pub mod FloorLaws
pub mod FirstLaws
pub mod ReadingLaws
pub mod CutLaws
pub mod SilenceLaws
pub mod ShownLaws
pub mod Induction
pub mod FoldLaws
pub mod PartLaws
pub mod Numerals
pub mod ByteLaws
pub mod ByteDerivations
pub mod ResultLaws
pub mod Apart
pub mod SmallRowLaws
mod WorkedRowLaws
mod WorkedSignLaws
mod WorkedValueLaws
pub mod WorkedGrammars
-- the crate below, of which those above cite lemmas through this one
pub use Rattle.text_core.proofs as text_core
