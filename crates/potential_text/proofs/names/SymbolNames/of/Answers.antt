use Rattle.std.proofs.Common.{List, map, ap, sym, subst, ◌∙◌}
use Rattle.its_model.specs.Views.{name_of}
use Rattle.its_model.specs.declared.program.Symbol.{Symbol}
use Rattle.text_grammar.specs.text_core.Names.{AreDistinct}
use Rattle.potential_text.proofs.SymbolLists.{same_names}
use Rattle.potential_text.proofs.names.SymbolNames.of.Goals as goal

pub new-requires : goal.new-requires
new-requires c =
    subst AreDistinct (same_names c.args.program.now.symbols.items
    ∙ ap (λ (ss : List Symbol). map (λ s. name_of s.name) ss) (sym c.deref.ensures.value)) c.requires

pub returns : goal.returns
returns c =
    c.in_ok-names.ensures ∙ ap (λ (ss : List Symbol). map (λ s. name_of s.name) ss) c.deref.ensures.value
    ∙ sym (same_names c.args.program.now.symbols.items)
