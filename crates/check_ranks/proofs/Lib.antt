-- The symbols of a set of rules.
mod Marking
-- the decrease by a rule
mod GoalForms
-- the shape of ranking nodes
mod RankShapes
-- the forms of ranking functions
mod RankForms
mod OrderedForms
-- the rows of the decrease and of the floor
mod LossRows
-- the places that are read
mod ReadPlaces
-- the answers on ranking nodes
mod RankAnswers
