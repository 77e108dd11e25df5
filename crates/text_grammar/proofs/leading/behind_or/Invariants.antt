use Rattle.std.proofs.Common.{◌≡◌, length}
use Rattle.text_grammar.specs.Spelled.{others_of}
use Rattle.text_grammar.proofs.leading.behind_or.Given as goal

-- the bodies after the `Or` are those of the remaining items
abbrev pub invariant-loop-item : goal.invariant-loop-item
invariant-loop-item l = others_of l.left ≡ others_of l.fn.body

abbrev pub decreases-loop-item : goal.decreases-loop-item
decreases-loop-item l = length l.left
