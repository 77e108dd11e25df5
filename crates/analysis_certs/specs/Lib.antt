-- the proof file of an analysis
pub mod ProvedFiles
