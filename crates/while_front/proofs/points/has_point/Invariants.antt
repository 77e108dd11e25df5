use Rattle.std.proofs.Common.{◌≡◌, ◌==◌, drop}
use Rattle.std.specs.List.{list_any}
use Rattle.while_front.proofs.points.has_point.Given as goal

-- The points left decide the answer.
abbrev pub invariant-loop-x : goal.invariant-loop-x
invariant-loop-x l = list_any (λ x. x == l.k) (drop l.x-index l.points) ≡ list_any (λ x. x == l.k) l.points
