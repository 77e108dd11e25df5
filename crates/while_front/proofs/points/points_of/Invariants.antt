use Rattle.std.proofs.Common.{◌≡◌, map, drop}
use Rattle.while_model.specs.Translation.{with_points, points_of}
use Rattle.while_front.specs.Views.{move_of}
use Rattle.while_front.proofs.points.points_of.Given as goal

-- The points so far, with those of the moves left, are the points of all.
abbrev pub invariant-loop-one : goal.invariant-loop-one
invariant-loop-one l =
    with_points l.points.items (map move_of (drop l.one-index l.moves)) ≡ points_of (map move_of l.moves)
