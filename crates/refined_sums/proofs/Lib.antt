pub mod CopySums
pub mod SumsKept
pub mod WorkedValues
