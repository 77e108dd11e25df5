-- Laws of reading facts of signed bounds.
pub mod PartLoops
