-- Laws of texts of claims, and texts worked through.
mod PlaceNames
pub mod WorkedTexts
