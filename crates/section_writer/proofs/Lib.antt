pub mod WorkedValues
-- reading along the text of a section
pub mod Following
pub mod Along
pub mod Cutting
pub mod States
pub mod Listing
pub mod CaseTexts
pub mod LineTexts
pub mod SectionTexts
