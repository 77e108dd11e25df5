use Rattle.std.proofs.Common.{List}
use Rattle.its_model.specs.Views.{program_of}
use Rattle.location_facts.specs.declared.fact.LocFact.{LocFact}
use Rattle.location_facts.specs.CombinedRows.{AreCombined}
use Rattle.location_facts.specs.Faults.{ProofsShow}
use Rattle.location_facts.proofs.faults.unshown_rule.Given as goal

-- the proofs so far show the fact
abbrev pub invariant-loop-k : goal.invariant-loop-k
invariant-loop-k l = (kept : List LocFact) → AreCombined (program_of l.p) kept l.rows
    → ProofsShow (program_of l.p) kept l.fact l.proofs l.k
