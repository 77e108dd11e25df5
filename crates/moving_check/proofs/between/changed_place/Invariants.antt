use Rattle.std.proofs.Common.{◌≡◌, suc, drop}
use Rattle.moving_check.specs.Findings.{first_change}
use Rattle.moving_check.proofs.between.changed_place.Given as goal

-- the first change among all places is the first one among the remaining places
abbrev pub invariant-loop-i : goal.invariant-loop-i
invariant-loop-i l = first_change (suc l.i) (drop l.i l.env) (drop l.i l.behind) ≡ first_change 1 l.env l.behind
