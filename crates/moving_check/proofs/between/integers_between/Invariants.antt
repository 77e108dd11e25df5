use Rattle.std.proofs.Common.{◌≡◌, ◌++◌, suc, drop}
use Rattle.affine_turns.specs.Affine.{between}
use Rattle.moving_check.specs.Findings.{first_wide}
use Rattle.moving_check.proofs.between.integers_between.Given as goal

-- the affine values are those so far and those of the remaining places, and the first wide slope is that of the
-- remaining places
abbrev pub invariant-loop-i : goal.invariant-loop-i
invariant-loop-i l = record {
  values : l.env.items ++ between (drop l.i l.before) (drop l.i l.behind) ≡ between l.before l.behind;
  wide : first_wide (suc l.i) (between (drop l.i l.before) (drop l.i l.behind)) ≡ first_wide 1 (between l.before l.behind);
}
