-- The lines for the symbols of the code are those for the symbols.
use Rattle.std.proofs.Common.{List, ℕ, ◌++◌, ◌∙◌, ap, refl}
use Rattle.its_model.specs.declared.program.Symbol.{Symbol}
use Rattle.its_model.specs.Views.{symbol_of}
use Rattle.report_text.specs.Pieces.{numbered_lines}
use Rattle.report_text.proofs.Lists.{numbered_same}
use Rattle.facts_report.specs.FactTexts.{symbol_lines}
use Rattle.facts_report.proofs.lines.location_lines.Goals as goal

pub returns : goal.returns
returns c =
    let kept = c.args.kept.now in
    c.in_ok-push_lines.ensures {u = tt}
    ∙ (ap (λ (t : List ℕ). t ++ numbered_lines (λ s symbol. symbol_lines kept s (symbol_of symbol)) 0
    c.deref.result.now)
    c.new-text.ensures.items
    ∙ (ap (λ (xs : List Symbol). numbered_lines (λ s symbol. symbol_lines kept s (symbol_of symbol)) 0 xs)
    c.deref.ensures.value
    ∙ numbered_same (λ s symbol. symbol_lines kept s (symbol_of symbol)) (symbol_lines kept) symbol_of (λ n x. refl) 0
    c.args.p.now.symbols.items))
