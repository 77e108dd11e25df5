-- lists of lines
mod LineLists
-- the choice between two bounds
mod Choices
-- bounds of an analysis on their subjects
mod AnalysisBounds
-- choices, sums, texts and reports that were worked out by hand
mod WorkedChoices
mod WorkedSums
mod WorkedTexts
mod WorkedReports
-- bounds by statements, and tables of them
mod Statements
mod StatementTables
-- sums of what rules spend, by tables, and as bounds that hold
mod SpendingTables
mod SpendingSums
-- lines and reports with such a sum as total
mod LinesWithTotal
mod TotalReports
