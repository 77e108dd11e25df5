-- what the contracts of shelves and sinks cite
pub mod Counts
pub mod Files
pub mod Fetching
pub mod Putting
pub mod Stops
pub mod MemoryFiles
pub mod FileShelf
pub mod MemoryShelf
pub mod MemorySink
pub mod OutSink
pub mod SteadyShelf
-- values that were worked out by hand
pub mod WorkedPuts
