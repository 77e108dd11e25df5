use Rattle.std.proofs.Common.{◌≡◌, ◌++◌, map, drop}
use Rattle.its_model.specs.Views.{name_of}
use Rattle.best_report.specs.Lines.{line_of}
use Rattle.best_report.specs.Texts.{lines_text}
use Rattle.best_report.proofs.printing.push_lines.Given as goal

-- the lines that are left, behind what is written, are all of them
abbrev pub invariant-loop-line : goal.invariant-loop-line
invariant-loop-line l =
    l.text.items ++ lines_text (map name_of l.names) (map line_of (drop l.line-index l.lines))
    ≡ l.initial.text.items ++ lines_text (map name_of l.names) (map line_of l.lines)
