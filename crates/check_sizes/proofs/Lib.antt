-- The goals of side bounds.
mod SideBoundGoals
-- side bounds over prepared rows
mod SideBoundsOver
-- members
mod MemberShapes
-- the answers on nodes on sizes
mod SizedNodes
-- the rows of costs, and the answers on costs
mod CostRows
mod CostAnswers
