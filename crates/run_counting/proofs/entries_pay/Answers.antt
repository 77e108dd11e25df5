use Rattle.run_counting.proofs.Counting as lemmas
use Rattle.run_counting.proofs.entries_pay.Goals as goal

pub returns : goal.returns
returns g c = lemmas.entries_pay g.L.Levels.HasLevel
