-- verdicts on files of the first and the second form, and of the third form
mod PlainVerdicts
mod RefinedVerdicts
-- the law, and values that were worked out by hand
mod OneVerdict
mod WorkedSections
mod WorkedVerdicts
-- a program that a section spells, and the facts at symbols by it
mod SpelledAbove
mod SectionFacts
