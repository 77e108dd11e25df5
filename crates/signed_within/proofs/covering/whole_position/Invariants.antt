use Rattle.std.proofs.Common.{◌≡◌, take, drop}
use Rattle.signed_bounds.specs.Safe.{expands_to_squares}
use Rattle.signed_bounds.specs.Covers.{used_whole}
use Rattle.signed_within.specs.Views.{signed_at, counted}
use Rattle.signed_within.proofs.Wholes.{behind}
use Rattle.signed_within.proofs.covering.whole_position.Given as goal

-- no product that was passed is large enough as a whole
abbrev pub invariant-loop-i : goal.invariant-loop-i
invariant-loop-i l =
    behind (counted (take l.i l.qs) (take l.i l.left))
    (used_whole expands_to_squares (record { times = l.n; factors = signed_at l.p.factors.items })
    (counted (drop l.i l.qs) (drop l.i l.left)))
    ≡ used_whole expands_to_squares (record { times = l.n; factors = signed_at l.p.factors.items }) (counted l.qs l.left)
