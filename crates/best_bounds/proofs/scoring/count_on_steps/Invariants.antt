use Rattle.std.proofs.Common.{◌≡◌, ◌≤◌, ◌+◌, map, drop}
use Rattle.claims_check.specs.Views.{stated_of}
use Rattle.best_bounds.specs.Subjects.{bounds_on_steps}
use Rattle.best_bounds.proofs.scoring.count_on_steps.Given as goal

-- the bounds that are counted, with those of the statements that are left, are those of all, and no more than the
-- statements before
abbrev pub invariant-loop-statement : goal.invariant-loop-statement
invariant-loop-statement l = record {
  count : l.count + bounds_on_steps (map stated_of (drop l.statement-index l.stated))
      ≡ bounds_on_steps (map stated_of l.stated);
  few : l.count ≤ l.statement-index;
}
