-- Worked values of small files.
pub mod WorkedTexts
pub mod WorkedLimits
pub mod WorkedBreaks
pub mod WorkedFaults
pub mod Lawful
-- laws of the code that reads
pub mod KeptLaws
pub mod BoundBytes
pub mod Judging
pub mod TokenTextLaws
-- the text of a file is read along
pub mod Along
pub mod States
pub mod Cutting
pub mod Listing
pub mod PartTexts
pub mod MemberTexts
pub mod PointTexts
pub mod InnerTexts
pub mod NodeTexts
pub mod FileTexts
-- bytes that were read as a file are its text, and it is within the limits
pub mod Back
pub mod ListsBack
pub mod PartsBack
pub mod MembersBack
pub mod PointsBack
pub mod BoundsBack
pub mod NodesBack
pub mod FilesBack
