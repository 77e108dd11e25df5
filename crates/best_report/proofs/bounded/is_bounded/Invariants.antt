use Rattle.std.proofs.Common.{◌≡◌, map, drop}
use Rattle.best_report.specs.Lines.{line_of, is_bounded}
use Rattle.best_report.proofs.bounded.is_bounded.Given as goal

-- the lines that are left decide
abbrev pub invariant-loop-line : goal.invariant-loop-line
invariant-loop-line l = is_bounded (map line_of (drop l.line-index l.lines)) ≡ is_bounded (map line_of l.lines)
