use Rattle.std.proofs.Common.{◌≡◌, ◌+◌, ◌<◌, ◌^◌, ◌++◌, length, map, drop}
use Rattle.while_model.specs.Statements.{size}
use Rattle.while_model.specs.Moves.{moves}
use Rattle.while_tree.specs.Views.{statements_of}
use Rattle.while_front.specs.Views.{move_of}
use Rattle.while_front.proofs.moves.+moved.Given as goal

-- The moves so far, and then those of the statements left, are those at the start and those of all statements; the
-- statements left can be numbered.
abbrev pub invariant-push_moves-loop-stmt : goal.invariant-push_moves-loop-stmt
invariant-push_moves-loop-stmt l =
    (map move_of l.moves.items ++ moves l.here l.after (statements_of (drop l.stmt-index l.body))
    ≡ map move_of l.fn.moves.items ++ moves l.fn.at l.after (statements_of l.body))
    × (l.here + size (statements_of (drop l.stmt-index l.body)) < 2 ^ 32) × (l.left + l.stmt-index ≡ length l.body)
