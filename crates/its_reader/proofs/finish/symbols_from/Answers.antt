use Rattle.std.proofs.Common.{◌≡◌, length, map, ◌++◌, sym, ap, subst, ◌∙◌, Some, None}
use Rattle.std.specs.Prelude.{slice_get, drop}
use Rattle.model.specs.Programs.{Name}
use Rattle.its_model.specs.Views.{symbol_of}
use Rattle.expr_reader.specs.Variables.{names_in}
use Rattle.its_reader.specs.Finishing.{tabled, symbol_in}
use Rattle.its_reader.proofs.ListedLaws.{made_more, made_all, made_less}
use Rattle.its_reader.proofs.finish.symbols_from.Goals as goal

pub loop-listed-preserved : goal.loop-listed-preserved
loop-listed-preserved c =
    subst (λ xs. map symbol_of xs ++ drop (length xs)
    (tabled (names_in c.args.symbols.now.names) c.args.symbols.now.arities.items)
    ≡ tabled (names_in c.args.symbols.now.names) c.args.symbols.now.arities.items) (sym c.in_ok-push.ensures.items)
    (made_more (tabled (names_in c.args.symbols.now.names) c.args.symbols.now.arities.items) c.loop-listed.made.items
    (record { name = c.in_ok-name.name; arity = c.in-Some.listed.arity })
    (record { name = c.in-Some.listed.name.now; arity = c.in-Some.listed.arity }) c.loop-listed.invariant
    (subst (λ n. slice_get (tabled (names_in c.args.symbols.now.names) c.args.symbols.now.arities.items) n
    ≡ Some (record { name = c.in-Some.listed.name.now; arity = c.in-Some.listed.arity }))
    (c.len.ensures ∙ c.loop-listed.made.ok.0)
    (sym c.get.ensures ∙ ap symbol_in c.in-Some.is))
    (ap (λ (n : Name). record { name = n; arity = c.in-Some.listed.arity }) c.in_ok-name.ensures))

pub loop-listed-smaller : goal.loop-listed-smaller
loop-listed-smaller c =
    made_less (tabled (names_in c.args.symbols.now.names) c.args.symbols.now.arities.items) c.loop-listed.made.items
    c.push.new.self.items (record { name = c.in_ok-name.name; arity = c.in-Some.listed.arity })
    (record { name = c.in-Some.listed.name.now; arity = c.in-Some.listed.arity })
    (subst (λ n. slice_get (tabled (names_in c.args.symbols.now.names) c.args.symbols.now.arities.items) n
    ≡ Some (record { name = c.in-Some.listed.name.now; arity = c.in-Some.listed.arity }))
    (c.len.ensures ∙ c.loop-listed.made.ok.0)
    (sym c.get.ensures ∙ ap symbol_in c.in-Some.is))
    c.in_ok-push.ensures.items

pub returns : goal.returns
returns c =
    made_all (tabled (names_in c.args.symbols.now.names) c.args.symbols.now.arities.items) c.loop-listed.made.items
    c.loop-listed.invariant
    (subst (λ n. slice_get (tabled (names_in c.args.symbols.now.names) c.args.symbols.now.arities.items) n ≡ None)
    (c.len.ensures ∙ c.loop-listed.made.ok.0) (sym c.get.ensures ∙ ap symbol_in c.in_default.is))
