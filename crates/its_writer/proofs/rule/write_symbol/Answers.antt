-- The symbol is the one with the number.
use Rattle.std.proofs.Common.{sym, ap, subst, ◌∙◌, ◌++◌, List, ℕ}
use Rattle.std.specs.Prelude.{OnOk}
use Rattle.its_text.specs.expr_text.text_core.Names.{name_of}
use Rattle.its_model.specs.declared.program.Symbol.{Symbol}
use Rattle.its_writer.specs.Printing.{WritesAll}
use Rattle.its_writer.proofs.Written.{symbol_named}
use Rattle.its_writer.proofs.rule.write_symbol.Goals as goal

pub returns-in-Some : goal.returns-in-Some
returns-in-Some c =
    subst (λ (bs : List ℕ). OnOk c.write_bytes.result (WritesAll c.args.text.now.items c.write_bytes.new.text.items (λ rest. bs ++ rest)))
    (c.deref.ensures.value ∙ ap (λ (s : Symbol). name_of s.name) c.in-Some.ensures.lookup.1 ∙ sym (symbol_named c.args.symbols.now c.args.number c.in-Some.symbol.now c.in-Some.ensures.lookup.3.0))
    c.write_bytes.ensures
