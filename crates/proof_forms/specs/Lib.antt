-- the meanings of texts of proof files, and why they are refused
pub mod Texts
-- what results say
pub mod Results
-- laws, and values that were worked out by hand
pub mod Laws
pub mod Worked
