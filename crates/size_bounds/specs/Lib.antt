-- tables of bounds as the code keeps them
pub mod Tables
-- the answers on sizes
pub mod SizeAnswers
-- the lemmas that a node cites
pub mod Lemmas
-- sizes that are found are accepted
pub mod Laws
