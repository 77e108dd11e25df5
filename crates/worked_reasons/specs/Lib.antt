-- values that were worked out by hand
pub mod Programs
pub mod HitsLimit
pub mod Squares
pub mod FirstHitsLimit
pub mod PointHitsLimit
pub mod Limits
pub mod Scales
pub mod UnboundedPlaces
pub mod Products
pub mod Growths
pub mod FirstReasons
pub mod FirstUntimed
pub mod Costs
pub mod CostOutcomes
