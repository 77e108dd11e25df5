-- laws of held files and of written bytes, and worked values of puts
pub mod MemoryFileLemmas
pub mod KnownBytesLemmas
pub mod WorkedPuts
