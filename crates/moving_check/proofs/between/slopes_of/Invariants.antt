use Rattle.std.proofs.Common.{◌≡◌, ◌++◌, drop}
use Rattle.affine_turns.specs.Affine.{slopes}
use Rattle.moving_check.proofs.between.slopes_of.Given as goal

-- the slopes are those so far and those of the remaining affine values
abbrev pub invariant-loop-a : goal.invariant-loop-a
invariant-loop-a l = l.found.items ++ slopes (drop l.a-index l.env) ≡ slopes l.env
