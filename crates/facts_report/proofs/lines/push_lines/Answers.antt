use Rattle.std.proofs.Common.{◌++◌, ◌∙◌, ap}
use Rattle.its_model.specs.declared.program.Symbol.{Symbol}
use Rattle.its_model.specs.Views.{symbol_of}
use Rattle.facts_report.specs.FactTexts.{symbol_lines}
use Rattle.facts_report.proofs.EachLines.{line_more}
use Rattle.facts_report.proofs.lines.push_lines.Goals as goal

pub loop-s-preserved : goal.loop-s-preserved
loop-s-preserved c =
    line_more (λ s symbol. symbol_lines c.args.kept.now s (symbol_of symbol)) c.args.symbols.now c.loop-s.s
    c.index-symbols-s.result c.loop-s.text.items c.push_symbol.new.text.items _ c.loop-s-test.true c.loop-s.invariant
    (c.in_ok-push_symbol.ensures
    ∙ ap (λ (symbol : Symbol). c.loop-s.text.items ++ symbol_lines c.args.kept.now c.loop-s.s (symbol_of symbol))
    c.index-symbols-s.is)
