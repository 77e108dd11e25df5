use Rattle.std.proofs.Common.{◌≡◌, ◌++◌, ◌∙◌, ℕ, Bool, ap, map, get_or, subst}
use Rattle.simplex_core.specs.linear_forms.RuleQuestions.{coefficients}
use Rattle.poly_terms.specs.model.Programs.{arity_of}
use Rattle.its_model.specs.Views.{program_of}
use Rattle.rank_search.specs.Coefficients.{coefficient_of, open_block, open_set}
use Rattle.rule_questions.specs.ProgramQuestions.{places_of}
use Rattle.rank_search.specs.ShutPlaces.{is_listed}
use Rattle.rule_questions.proofs.Lists.{read-again}
use Rattle.rank_search.proofs.OpenPlaces.{symbol-done}
use Rattle.rank_search.proofs.ShutSets.{same-test}
use Rattle.rank_search.proofs.coefficients.coefficients_of.Goals as goal

pub loop-symbol-preserved : goal.loop-symbol-preserved
loop-symbol-preserved c =
    let p = program_of c.args.p.now in
    let shut = places_of c.args.shut.now in
    let symbols = c.args.symbols.now in
    let i = c.loop-symbol.symbol-index in
    let s = get_or symbols i 0 in
    let first = map coefficient_of c.loop-symbol.found.items in
    symbol-done p shut symbols i s first (map coefficient_of c.push_symbol.new.found.items)
    (coefficients (open_set p shut) symbols) c.loop-symbol-test.true (read-again symbols i 0 s c.loop-symbol-test.true)
    c.loop-symbol.invariant
    (subst (λ (closed : ℕ → ℕ → Bool). map coefficient_of c.push_symbol.new.found.items
    ≡ first ++ open_block closed s (arity_of p s))
    (same-test c.in_ok-closed.closed shut c.in_ok-closed.ensures)
    (c.in_ok-push_symbol.ensures
    ∙ ap (λ (n : ℕ). first ++ open_block (is_listed c.in_ok-closed.closed) s n) c.arity_at.ensures))
