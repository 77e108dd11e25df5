use Rattle.std.proofs.Common.{◌≡◌, ◌+◌, drop}
use Rattle.while_model.specs.Translation.{number_in}
use Rattle.while_front.proofs.points.number_in.Given as goal

-- The point is none of those passed.
abbrev pub invariant-loop-x : goal.invariant-loop-x
invariant-loop-x l = (l.number ≡ l.x-index) × (l.number + number_in (drop l.x-index l.points) l.k ≡ number_in l.points l.k)
