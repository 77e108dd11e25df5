-- The facts and the report are on the program that the text spells.
use Rattle.headline.proofs.WithFacts.{bounds_with_facts, any_text_with_facts}
use Rattle.headline.proofs.bounds_with_facts_hold.Goals as goal

pub returns : goal.returns
returns c = record { canonical = bounds_with_facts; any_text = any_text_with_facts }
