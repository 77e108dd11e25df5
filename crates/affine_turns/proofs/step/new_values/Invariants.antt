use Rattle.std.proofs.Common.{◌≡◌, ◌++◌, suc, drop, map}
use Rattle.its_model.specs.poly_terms.Views.{term_of}
use Rattle.affine_turns.specs.Affine.{with_free}
use Rattle.affine_turns.specs.Turns.{updates_stop, values_affine}
use Rattle.affine_turns.proofs.step.new_values.Given as goal

-- the first failure among all updates is the first one among the remaining updates, and the new values are those so far
-- followed by those of the remaining updates
abbrev pub invariant-loop-i : goal.invariant-loop-i
invariant-loop-i l = record {
  stop : updates_stop (with_free l.places l.free) (suc l.i) (map term_of (drop l.i l.updates))
      ≡ updates_stop (with_free l.places l.free) 1 (map term_of l.updates);
  values : l.behind.items ++ values_affine (with_free l.places l.free) (map term_of (drop l.i l.updates))
      ≡ values_affine (with_free l.places l.free) (map term_of l.updates);
}
