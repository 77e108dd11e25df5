use Rattle.std.proofs.Common.{◌≡◌, ◌+◌, ◌++◌, map, drop}
use Rattle.report_text.specs.Pieces.{numbered_lines}
use Rattle.its_model.specs.Views.{symbol_of}
use Rattle.outcome.specs.Views.{time_of}
use Rattle.report_text.specs.Reports.{why_time}
use Rattle.report_text.proofs.report.push_why_times.Given as goal

-- the written lines and the remaining ones are the whole
abbrev pub invariant-loop-i : goal.invariant-loop-i
invariant-loop-i l = l.text.items ++ numbered_lines (λ rule t. why_time (map symbol_of l.symbols) rule (time_of l.gaps t)) (l.i + 1) (drop l.i l.times) ≡ l.initial.text.items ++ numbered_lines (λ rule t. why_time (map symbol_of l.symbols) rule (time_of l.gaps t)) 1 l.times
