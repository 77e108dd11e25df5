use Rattle.std.proofs.Common.{◌≡◌, ◌+◌, ◌++◌, map, drop}
use Rattle.report_text.specs.Pieces.{numbered_lines}
use Rattle.its_model.specs.Views.{name_of}
use Rattle.report_text.specs.Conditions.{entry_line}
use Rattle.report_text.proofs.report.push_times.Given as goal

-- the written lines and the remaining ones are the whole
abbrev pub invariant-loop-i : goal.invariant-loop-i
invariant-loop-i l = l.text.items ++ numbered_lines (entry_line (map name_of l.names)) (l.i + 1) (drop l.i l.times) ≡ l.initial.text.items ++ numbered_lines (entry_line (map name_of l.names)) 1 l.times
