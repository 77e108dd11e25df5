use Rattle.std.proofs.Common.{◌≡◌, ◌≤◌, ◌++◌, drop, map, length}
use Rattle.std.specs.Prelude.{vec_len, vec_capacity}
use Rattle.poly_terms.specs.model.Terms.{value}
use Rattle.poly_terms.specs.Views.{term_of}
use Rattle.its_model.specs.Steps.{updates_fault}
use Rattle.its_model.proofs.step.update.Given as goal

-- The values so far and those of the remaining updates are all; the fault of the remaining updates is that of all; and
-- there is room.
abbrev pub invariant-loop-u : goal.invariant-loop-u
invariant-loop-u l = record {
  values : l.values.items ++ map (λ u. value u (l.left ++ l.free)) (map term_of (drop l.u-index l.updates)) ≡ map (λ u. value u (l.left ++ l.free)) (map term_of l.updates);
  fault : updates_fault (l.left ++ l.free) (map term_of (drop l.u-index l.updates)) ≡ updates_fault (l.left ++ l.free) (map term_of l.updates);
  count : vec_len l.values ≡ l.u-index;
  room : length l.updates ≤ vec_capacity l.values;
  kept : vec_capacity l.initial.values ≤ vec_capacity l.values;
}
