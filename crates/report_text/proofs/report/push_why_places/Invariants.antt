use Rattle.std.proofs.Common.{◌≡◌, ◌+◌, ◌++◌, drop}
use Rattle.report_text.specs.Pieces.{numbered_lines}
use Rattle.outcome.specs.Views.{size_of}
use Rattle.report_text.specs.Reports.{why_size}
use Rattle.report_text.proofs.report.push_why_places.Given as goal

-- the written lines and the remaining ones are the whole
abbrev pub invariant-loop-i : goal.invariant-loop-i
invariant-loop-i l = l.text.items ++ numbered_lines (λ place s. why_size l.rule place (size_of s)) (l.i + 1) (drop l.i l.places) ≡ l.initial.text.items ++ numbered_lines (λ place s. why_size l.rule place (size_of s)) 1 l.places
