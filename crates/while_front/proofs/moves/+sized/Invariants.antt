use Rattle.std.proofs.Common.{◌≡◌, ◌+◌, drop}
use Rattle.while_model.specs.Statements.{size}
use Rattle.while_tree.specs.Views.{statements_of}
use Rattle.while_front.proofs.moves.+sized.Given as goal

-- The number of statements passed plus that of those left is the number of all.
abbrev pub invariant-size_of-loop-stmt : goal.invariant-size_of-loop-stmt
invariant-size_of-loop-stmt l =
    l.count + size (statements_of (drop l.stmt-index l.body)) ≡ size (statements_of l.body)
