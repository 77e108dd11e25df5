-- entries that lack no bound
pub mod KnownEntries
-- worked values of reports without and with costs
pub mod WorkedReports
pub mod WorkedCosts
