use Rattle.std.proofs.Common.{◌≡◌, ◌+◌, ◌≤◌, drop}
use Rattle.guard_prep.specs.Prepared.{count_true}
use Rattle.guard_prep.proofs.preparing.count_of.Given as goal

-- the count so far and that of the remaining places are that of all
abbrev pub invariant-loop-b : goal.invariant-loop-b
invariant-loop-b l = record {
  whole : l.count + count_true (drop l.b-index l.nonlinear) ≡ count_true l.nonlinear;
  few : l.count ≤ l.b-index;
}
