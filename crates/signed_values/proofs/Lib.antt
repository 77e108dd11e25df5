-- loops over the parts of a bound
pub mod Parts
-- values up to a limit
pub mod Numbers
-- lists of start values
mod Lists
-- values that were worked out by hand
mod WorkedValues
