-- tables of facts, and facts along copies
mod Inserting
mod KnownFacts
-- facts follow, so they hold
mod FormValues
mod Following
mod Holding
-- values that were worked out by hand
mod WorkedFacts
