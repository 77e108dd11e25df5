-- The definitions that the contracts of this crate, and of crates above it, cite.
pub mod Lists
pub mod Texts
pub mod OverFirst
pub mod Spelled
pub mod Remembered
pub mod NumberFaults
pub mod Reading
pub mod ParsedSoFar
pub mod Refused
pub mod StatedErrors
-- proof files and their texts determine each other
pub mod RoundTrips
-- worked values
pub mod Worked
pub mod WorkedReading
pub mod WorkedFaults
pub mod TokenTexts
-- the crates below, which callers name through this one
pub use Rattle.cert_lexer.specs as cert_lexer
