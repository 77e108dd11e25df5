use Rattle.std.proofs.Common.{◌≡◌, ◌+◌, ◌++◌, drop}
use Rattle.report_text.specs.Pieces.{numbered_lines}
use Rattle.outcome.specs.Views.{size_of}
use Rattle.report_text.specs.Reports.{why_size}
use Rattle.report_text.proofs.report.push_why_sizes.Given as goal

-- the written lines and the remaining ones are the whole
abbrev pub invariant-loop-i : goal.invariant-loop-i
invariant-loop-i l = l.text.items ++ numbered_lines (λ rule places. numbered_lines (λ place s. why_size rule place (size_of s)) 1 places.items) (l.i + 1) (drop l.i l.sizes) ≡ l.initial.text.items ++ numbered_lines (λ rule places. numbered_lines (λ place s. why_size rule place (size_of s)) 1 places.items) 1 l.sizes
