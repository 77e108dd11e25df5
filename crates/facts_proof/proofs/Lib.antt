-- what accepted claims state
mod Claimed
mod Included
-- the statements of an outcome, and of a report
mod EntryLists
-- whole files
mod WholeFiles
mod WorkedStatements
