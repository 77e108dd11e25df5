use Rattle.std.proofs.Common.{◌≡◌, ◌+◌, ◌∷◌, ◌++◌, List, map, drop, refl, sym, ap, ◌∙◌, append-nil}
use Rattle.std.proofs.lemmas.List.{drop_more, drop_all}
use Rattle.its_model.specs.model.Programs as plain
use Rattle.its_model.specs.Views.{name_of}
use Rattle.its_model.specs.declared.program.Symbol.{Symbol}
use Rattle.text_grammar.specs.text_core.Names.{is_same}
use Rattle.text_core.proofs.KeyLaws.{one_more_name}
use Rattle.potential_text.proofs.names.SymbolNames.new.Goals as goal

abbrev named : Symbol → plain.Name
named s = name_of s.name

pub loop-symbol-preserved : goal.loop-symbol-preserved
loop-symbol-preserved c =
    let left : drop c.loop-symbol.symbol-index c.args.symbols.now ≡ c.symbol-item.result ∷ drop (c.loop-symbol.symbol-index + 1) c.args.symbols.now =
    drop_more c.args.symbols.now c.loop-symbol.symbol-index c.symbol-item.result c.loop-symbol-test.true ∙ ap (λ (n : Symbol). n ∷ drop (c.loop-symbol.symbol-index + 1) c.args.symbols.now) (sym c.symbol-item.is) in
    one_more_name (λ k. k.now) (λ a b. is_same a.now b.now) c.loop-symbol.set.keys c.insert.new.self.keys c.as_slice.result (map named (drop (c.loop-symbol.symbol-index + 1) c.args.symbols.now))
    (map named c.args.symbols.now) (λ j. refl) c.in_ok-insert.ensures.keys
    (ap (λ (n : plain.Name). map (λ k. k.now) c.loop-symbol.set.keys ++ n ∷ map named (drop (c.loop-symbol.symbol-index + 1) c.args.symbols.now)) c.as_slice.ensures.value
    ∙ sym (ap (λ (ns : List Symbol). map (λ k. k.now) c.loop-symbol.set.keys ++ map named ns) left) ∙ c.loop-symbol.invariant) c.requires

pub returns : goal.returns
returns c =
    sym (append-nil _) ∙ ap (λ (ns : List plain.Name). map (λ k. k.now) c.loop-symbol.set.keys ++ ns) (sym (ap (map named) (drop_all c.loop-symbol.symbol-index c.args.symbols.now c.loop-symbol-test.false))) ∙ c.loop-symbol.invariant
