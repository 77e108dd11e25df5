-- The report is on the program that the text spells.
use Rattle.headline.proofs.Headline.{any_text}
use Rattle.headline.proofs.bounds_of_any_text_hold.Goals as goal

pub returns : goal.returns
returns c = any_text
