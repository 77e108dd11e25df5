use Rattle.std.proofs.Common.{◌≡◌, ◌++◌, map, drop}
use Rattle.cert_types.specs.AnswerViews.{gap_of}
use Rattle.check_text.specs.Texts.{gap_lines}
use Rattle.check_text.proofs.facts.push_gaps.Given as goal

-- the written text and the remaining one are the whole
abbrev pub invariant-loop-gap : goal.invariant-loop-gap
invariant-loop-gap l =
    l.text.items ++ gap_lines (map gap_of (drop l.gap-index l.gaps))
    ≡ l.initial.text.items ++ gap_lines (map gap_of l.gaps)
