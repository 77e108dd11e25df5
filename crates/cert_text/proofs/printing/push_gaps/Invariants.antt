use Rattle.std.proofs.Common.{◌≡◌, ◌++◌, map, drop}
use Rattle.its_model.specs.Views.{program_of}
use Rattle.cert_types.specs.AnswerViews.{gap_of}
use Rattle.cert_text.specs.Texts.{gap_lines}
use Rattle.cert_text.proofs.printing.push_gaps.Given as goal

-- the text so far and that of the remaining gaps are the whole text
abbrev pub invariant-loop-gap : goal.invariant-loop-gap
invariant-loop-gap l =
    l.text.items ++ gap_lines (program_of l.p) (map gap_of (drop l.gap-index l.gaps))
    ≡ l.initial.text.items ++ gap_lines (program_of l.p) (map gap_of l.gaps)
