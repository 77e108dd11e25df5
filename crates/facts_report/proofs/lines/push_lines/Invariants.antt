use Rattle.std.proofs.Common.{◌≡◌, ◌++◌, drop}
use Rattle.its_model.specs.Views.{symbol_of}
use Rattle.report_text.specs.Pieces.{numbered_lines}
use Rattle.facts_report.specs.FactTexts.{symbol_lines}
use Rattle.facts_report.proofs.lines.push_lines.Given as goal

-- the written text and the remaining one are the whole
abbrev pub invariant-loop-s : goal.invariant-loop-s
invariant-loop-s l =
    l.text.items ++ numbered_lines (λ s symbol. symbol_lines l.kept s (symbol_of symbol)) l.s (drop l.s l.symbols)
    ≡ l.initial.text.items ++ numbered_lines (λ s symbol. symbol_lines l.kept s (symbol_of symbol)) 0 l.symbols
