use Rattle.std.proofs.Common.{◌≡◌, ◌∷◌, List, [], map, refl, ap, sym, subst, ◌∙◌}
use Rattle.its_model.specs.Views.{name_of, symbol_of, program_of}
use Rattle.its_model.specs.model.Programs as plain
use Rattle.its_model.specs.declared.program.Symbol.{Symbol}
use Rattle.text_grammar.specs.text_core.NameIndex.{names_in}
use Rattle.text_grammar.specs.text_core.Names.{AreDistinct}
use Rattle.cert_lexer.specs.Lexing.{lexer_with, symbol_names}
use Rattle.cert_lexer.proofs.lexer.ProofLexer.new.Goals as goal

-- the names of symbols as plain data are their names
same_names : (symbols : List Symbol) → map (λ (s : plain.Symbol). s.name) (map symbol_of symbols) ≡ map (λ s. name_of s.name) symbols
same_names [] = refl
same_names (s ∷ symbols) = ap (λ (ns : List plain.Name). name_of s.name ∷ ns) (same_names symbols)

pub new-requires : goal.new-requires
new-requires c =
    subst AreDistinct (same_names c.args.p.now.symbols.items ∙ ap (λ (ss : List Symbol). map (λ s. name_of s.name) ss) (sym c.deref.ensures.value)) c.requires.symbols

pub returns : goal.returns
returns c =
    ap (λ (ns : List plain.Name). lexer_with ns (names_in c.in_ok-arguments.arguments))
    (c.in_ok-symbols.ensures ∙ ap (λ (ss : List Symbol). map (λ s. name_of s.name) ss) c.deref.ensures.value ∙ sym (same_names c.args.p.now.symbols.items))
    ∙ ap (λ (ns : List plain.Name). lexer_with (symbol_names (program_of c.args.p.now)) ns)
    (c.in_ok-arguments.ensures ∙ ap (λ ns. map name_of ns) c.deref-2.ensures.value)
