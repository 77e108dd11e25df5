-- laws of plans: tables, files, how a call ends, what its status means, and the answers after a file; worked values
pub mod Rows
pub mod GivenFiles
pub mod MemoryPlans
pub mod OneEnding
pub mod Meanings
pub mod Statuses
pub mod Faults
pub mod Fetched
pub mod AfterFile
pub mod Worked
pub mod WorkedPairs
