use Rattle.std.proofs.Common.{◌≡◌, ◌≤◌, ℕ, List, length, Bool}
use Rattle.std.specs.Prelude.{slice_get}
use Rattle.its_model.specs.Views.{program_of}
use Rattle.location_facts.specs.declared.fact.LocFact.{LocFact}
use Rattle.location_facts.specs.Due.{AreUnder, IsShownEarlier}
use Rattle.location_facts.specs.Implied.{AreImplied}
use Rattle.location_facts.proofs.shown.proofs_by.Given as goal

-- the rules so far imply the fact, as their proofs show
abbrev pub invariant-loop-k : goal.invariant-loop-k
invariant-loop-k l = record {
  many : length l.proofs.items ≡ l.k;
  same : (j : ℕ) → l.k ≤ j → slice_get l.earlier_proofs.items j ≡ slice_get l.fn.earlier.proofs.items j;
  implied : (due : List Bool) (kept : List LocFact)
      → AreUnder (program_of l.search.program.now) l.search.pivots due kept l.rules_under_facts
      → IsShownEarlier (program_of l.search.program.now) l.search.pivots due kept l.fn.earlier.fact
      l.fn.earlier.proofs.items
      → AreImplied (program_of l.search.program.now) l.search.pivots kept l.fn.earlier.fact l.proofs.items l.k;
}
