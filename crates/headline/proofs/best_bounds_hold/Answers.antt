-- The facts and the bounds are on the program that the text spells.
use Rattle.headline.proofs.Best.{best_bounds, any_text_best}
use Rattle.headline.proofs.best_bounds_hold.Goals as goal

pub returns : goal.returns
returns c = record { canonical = best_bounds; any_text = any_text_best }
