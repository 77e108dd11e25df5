use Rattle.std.proofs.Common.{◌≡◌, ◌++◌, drop}
use Rattle.while_answer.specs.Texts.{point_lines}
use Rattle.while_answer.proofs.points.push_points.Given as goal

-- The text written followed by the text of the statements left is the whole text.
abbrev pub invariant-loop-k : goal.invariant-loop-k
invariant-loop-k l =
    l.text.items ++ point_lines l.k (drop l.k l.positions) ≡ l.initial.text.items ++ point_lines 0 l.positions
