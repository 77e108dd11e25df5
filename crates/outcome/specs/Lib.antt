-- the report of an analysis on a program, and when it holds on all runs
pub mod Reports
pub mod Holding
pub mod WorkedReports
pub mod WorkedCosts
-- an outcome as a report, which entries lack no bound, and which outcomes can be printed
pub mod Views
pub mod Entries
pub mod Printing
-- the crates below, which callers name through this one
pub use Rattle.cert_types.specs.cert_rules
pub use Rattle.cert_types.specs.cert_program
pub use Rattle.cert_types.specs as cert_types
