use Rattle.std.proofs.Common.{◌≡◌, ◌++◌, map, drop}
use Rattle.its_model.specs.Views.{symbol_of}
use Rattle.outcome.specs.Views.{report_of}
use Rattle.best_report.specs.Lines.{line_of}
use Rattle.best_report.specs.Texts.{reasons_text}
use Rattle.best_report.proofs.printing.push_reasons.Given as goal

-- the reasons of the lines that are left, behind what is written, are those of all
abbrev pub invariant-loop-line : goal.invariant-loop-line
invariant-loop-line l =
    l.text.items ++ reasons_text (map symbol_of l.symbols) (report_of l.outcome) (map line_of (drop l.line-index l.lines))
    ≡ l.initial.text.items ++ reasons_text (map symbol_of l.symbols) (report_of l.outcome) (map line_of l.lines)
