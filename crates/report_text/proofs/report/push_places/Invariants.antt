use Rattle.std.proofs.Common.{◌≡◌, ◌+◌, ◌++◌, map, drop}
use Rattle.report_text.specs.Pieces.{numbered_lines}
use Rattle.its_model.specs.Views.{name_of}
use Rattle.outcome.specs.Views.{size_of}
use Rattle.report_text.specs.Reports.{size_line}
use Rattle.report_text.proofs.report.push_places.Given as goal

-- the written lines and the remaining ones are the whole
abbrev pub invariant-loop-i : goal.invariant-loop-i
invariant-loop-i l = l.text.items ++ numbered_lines (λ place s. size_line (map name_of l.names) l.rule place (size_of s)) (l.i + 1) (drop l.i l.places) ≡ l.initial.text.items ++ numbered_lines (λ place s. size_line (map name_of l.names) l.rule place (size_of s)) 1 l.places
