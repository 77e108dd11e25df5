use Rattle.std.proofs.Common.{◌≡◌, ◌++◌, drop}
use Rattle.lp_answer.specs.Texts.{value_lines}
use Rattle.lp_answer.proofs.text.push_values.Given as goal

-- what is written, followed by what is left, is the whole
abbrev pub invariant-loop-i : goal.invariant-loop-i
invariant-loop-i l =
    l.text.items ++ value_lines l.letter l.i (drop l.i l.values)
    ≡ l.initial.text.items ++ value_lines l.letter 0 l.values
