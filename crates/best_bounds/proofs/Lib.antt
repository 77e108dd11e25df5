-- Lists whose elements another list has.
mod Within
-- Lists of statements that keep the subjects of other ones.
mod SubjectLists
-- Two lists of statements that are merged, one step after another.
mod MergedLists
-- The file without claims.
mod EmptyFiles
-- What is found by files, one after another.
mod FoundFiles
-- What was worked out by hand.
mod WorkedSubjects
