use Rattle.std.proofs.Common.{refl}
use Rattle.guard_prep.specs.Tightening.{divisor_of}
use Rattle.potential_ground.proofs.grounds_are_as_worked_out.Goals as goal

pub returns : goal.returns
unfolding divisor_of
returns c = record { form = refl; missing = refl; rows = refl; new_values = refl; variables = refl; no_rule = refl }
