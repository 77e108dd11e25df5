use Rattle.check_potentials.specs.Grounds.{program}
use Rattle.check_potentials.proofs.lemmas.combined_refusal.Goals as goal

pub returns : goal.returns
returns c = c.in_ok-refused.ensures (program c.args.ground)
