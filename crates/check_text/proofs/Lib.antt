-- verdicts with their texts
mod Verdicts
-- texts that were worked out by hand
mod WorkedTexts
