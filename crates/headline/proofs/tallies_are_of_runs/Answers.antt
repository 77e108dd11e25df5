-- The tally is of a run of the program that the text spells.
use Rattle.headline.proofs.Replayed.{tallies, any_tallies}
use Rattle.headline.proofs.tallies_are_of_runs.Goals as goal

pub returns : goal.returns
returns c = record { canonical = tallies; any_text = any_tallies }
