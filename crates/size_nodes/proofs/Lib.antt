-- loops over lists
pub mod ListSteps
-- the sizes that side bounds read
pub mod NeededResultVariables
-- the first of them that isn't known
pub mod FirstMissing
-- the rows and side bounds of members
pub mod ProgramMembers
-- the answers for a place that doesn't loop
pub mod SpreadAnswers
-- the members after one rule
pub mod MembersAfter
-- lists of the members after each rule
-- the graph and the limits of a member of a loop
pub mod LoopMembers
-- parts that are joined
pub mod JoinedParts
-- the flows into members
pub mod LoopFlows
-- the coefficients of side bounds at members
pub mod Slopes
-- the growth by the rules of a loop
pub mod LoopParts
-- the flows of one rule
pub mod RuleFlows
-- the rules of members
pub mod MemberRules
-- the members that a side bound reads
pub mod NonlinearMembers
-- the answers for a loop
pub mod LoopAnswers
