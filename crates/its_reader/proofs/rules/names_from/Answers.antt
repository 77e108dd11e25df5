use Rattle.std.proofs.Common.{◌≡◌, length, map, ◌++◌, ◌∷◌, [], sym, ap, subst, ◌∙◌, Some, None}
use Rattle.std.specs.Prelude.{slice_get, drop}
use Rattle.std.specs.Option.{option_copied}
use Rattle.its_model.specs.Views.{name_of}
use Rattle.expr_reader.specs.Variables.{names_in}
use Rattle.its_reader.proofs.NameLists.{made_further, made_whole, made_smaller}
use Rattle.its_reader.proofs.rules.names_from.Goals as goal

pub loop-name-preserved : goal.loop-name-preserved
loop-name-preserved c =
    let found = sym c.get_index.ensures.key ∙ ap option_copied c.in-Some.is in
    let one = made_further (λ k. k.now) name_of c.names.result.now.keys c.loop-name.names.items c.in_ok-copy.copy
    c.in-Some.name.now
    (subst (λ ns. map name_of c.loop-name.names.items ++ drop (length c.loop-name.names.items) ns ≡ ns)
    (sym c.names.ensures) c.loop-name.invariant)
    (subst (λ n. slice_get c.names.result.now.keys n ≡ Some c.in-Some.name.now) (c.len.ensures ∙ c.loop-name.names.ok.0)
    found) c.in_ok-copy.ensures in
    subst (λ xs. map name_of xs ++ drop (length xs) (names_in c.args.variables.now) ≡ names_in c.args.variables.now)
    (sym c.in_ok-push.ensures.items)
    (subst (λ ns. map name_of (c.loop-name.names.items ++ c.in_ok-copy.copy ∷ [])
    ++ drop (length (c.loop-name.names.items ++ c.in_ok-copy.copy ∷ [])) ns ≡ ns) c.names.ensures one)

pub loop-name-smaller : goal.loop-name-smaller
loop-name-smaller c =
    let found = sym c.get_index.ensures.key ∙ ap option_copied c.in-Some.is in
    made_smaller (λ k. k.now) name_of c.names.result.now.keys c.loop-name.names.items c.push.new.self.items
    c.in_ok-copy.copy c.in-Some.name.now _ c.names.ensures
    (subst (λ n. slice_get c.names.result.now.keys n ≡ Some c.in-Some.name.now) (c.len.ensures ∙ c.loop-name.names.ok.0)
    found) c.in_ok-push.ensures.items

pub returns : goal.returns
returns c =
    made_whole (λ k. k.now) name_of c.names.result.now.keys c.loop-name.names.items
    (subst (λ ns. map name_of c.loop-name.names.items ++ drop (length c.loop-name.names.items) ns ≡ ns)
    (sym c.names.ensures) c.loop-name.invariant)
    (subst (λ n. slice_get c.names.result.now.keys n ≡ None) (c.len.ensures ∙ c.loop-name.names.ok.0)
    (sym c.get_index.ensures.key ∙ ap option_copied c.in_default.is)) ∙ c.names.ensures
