use Rattle.std.proofs.Common.{◌≡◌, ◌++◌, length}
use Rattle.bound_text.specs.Inside.{Marks}
use Rattle.cert_lexer.specs.Levels.{raised}
use Rattle.cert_lexer.specs.Representation.{Holds}
use Rattle.cert_lexer.proofs.levels.PartLevels.push_deeper.Given as goal

-- the marks pushed so far and the raised marks still to push are all
abbrev pub invariant-loop-mark : goal.invariant-loop-mark
invariant-loop-mark l =
    (before : Marks) → Holds l.fn.self before
    → (done : Marks) × (done ++ l.left ≡ l.marks) × Holds l.self (before ++ raised done)

abbrev pub decreases-loop-mark : goal.decreases-loop-mark
decreases-loop-mark l = length l.left
