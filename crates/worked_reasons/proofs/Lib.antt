-- sequences of tableaux, followed by computation
pub mod Runs
pub mod WholeEnds
pub mod SmallRuns
-- lists over two places
pub mod TwoPlaces
pub mod SquareFlows
pub mod SquareComponents
pub mod RulesWithPoints
pub mod DoubleRuns
pub mod DoubleComponents
pub mod DoubleMembers
pub mod OnePlace
pub mod LoopComponents
pub mod TwoTogether
pub mod ProductComponents
-- the worked values hold
pub mod HitsLimit
pub mod SquareTimes
pub mod FirstHitsLimit
pub mod PointHitsLimit
pub mod Limits
pub mod Scales
pub mod UnboundedPlaces
pub mod Products
pub mod Squares
pub mod Growths
pub mod FirstReasons
pub mod FirstUntimed
pub mod Costs
pub mod CostOutcomes
