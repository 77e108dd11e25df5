-- After the last copy the facts are those of all copies.
use Rattle.std.proofs.Common.{◌≡◌, List, map, None, refl, sym, ◌∙◌, ap, [], option_map}
use Rattle.std.proofs.lemmas.List.{drop_all}
use Rattle.std.specs.Prelude.{unwrap_or}
use Rattle.refined_programs.specs.declared.section.SymbolCopy.{SymbolCopy}
use Rattle.refined_programs.specs.Views.{annotated_copy}
use Rattle.symbol_facts.specs.Views.{forms_of}
use Rattle.symbol_facts.proofs.KnownFacts.{facts_after_copies, facts_after_copies-all}
use Rattle.symbol_facts.proofs.common.common_facts.Goals as goal

pub returns-in-Some : goal.returns-in-Some
returns-in-Some c =
    let copies : List SymbolCopy = c.args.copies.now in
    let whole =
    sym
    (ap (λ (cs : List SymbolCopy). facts_after_copies c.args.symbol (option_map (λ v. forms_of v.items) c.loop-copy.known)
    (map annotated_copy cs)) (drop_all c.loop-copy.copy-index copies c.loop-copy-test.false))
    ∙ c.loop-copy.invariant in
    ap (λ o. unwrap_or (option_map (λ v. forms_of v.items) o) []) (sym c.in-Some.is)
    ∙ (ap (λ o. unwrap_or o []) whole ∙ facts_after_copies-all c.args.symbol (map annotated_copy copies))

pub returns-in-None : goal.returns-in-None
returns-in-None c =
    let copies : List SymbolCopy = c.args.copies.now in
    let whole =
    sym
    (ap (λ (cs : List SymbolCopy). facts_after_copies c.args.symbol (option_map (λ v. forms_of v.items) c.loop-copy.known)
    (map annotated_copy cs)) (drop_all c.loop-copy.copy-index copies c.loop-copy-test.false))
    ∙ c.loop-copy.invariant in
    ap forms_of c.new.ensures.items
    ∙ (ap (λ o. unwrap_or (option_map (λ v. forms_of v.items) o) []) (sym c.in-None.is)
    ∙ (ap (λ o. unwrap_or o []) whole ∙ facts_after_copies-all c.args.symbol (map annotated_copy copies)))
