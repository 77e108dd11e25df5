use Rattle.std.proofs.Common.{map, take}
use Rattle.cert_types.specs.AnswerViews.{gap_of}
use Rattle.check_file.specs.Files.{HoldAll}
use Rattle.cert_context.specs.CheckContexts.{program}
use Rattle.check_file.proofs.gaps.first_refused_gap.Given as goal

-- the gaps before this one hold
abbrev pub invariant-loop-i : goal.invariant-loop-i
invariant-loop-i l = HoldAll (program l.context) (map gap_of (take l.i l.gaps))
