-- The facts are of the program that the text spells.
use Rattle.headline.proofs.Checked.{checked_facts, any_facts}
use Rattle.headline.proofs.checked_facts_hold.Goals as goal

pub returns : goal.returns
returns c = record { canonical = checked_facts; any_text = any_facts }
