-- Laws of the texts of signed bounds, and texts worked through.
mod MonomialRanks
mod FactorTexts
mod WorkedTexts
