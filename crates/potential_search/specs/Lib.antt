-- the shape of what a search finds
pub mod Shape
