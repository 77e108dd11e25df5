use Rattle.its_model.specs.Views.{program_of}
use Rattle.location_facts.specs.Faults.{AreShown, proofs_of}
use Rattle.location_facts.proofs.faults.first_unshown.Given as goal

-- the proofs of the facts so far show them
abbrev pub invariant-loop-i : goal.invariant-loop-i
invariant-loop-i l = AreShown (program_of l.p) l.f.kept.items (proofs_of l.f) l.i
