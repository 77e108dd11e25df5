use Rattle.std.proofs.Common.{◌≡◌, ℕ, ◌≤◌, ◌+◌, ◌∙◌, Bool, ap, map, get_or, arith, subst, ◌∷◌, []}
use Rattle.std.proofs.lemmas.List.{map-append}
use Rattle.simplex_core.specs.linear_forms.Forms.{at}
use Rattle.simplex_core.specs.linear_forms.QuestionLaws.{parameters_of}
use Rattle.poly_terms.specs.model.Programs.{arity_of}
use Rattle.std.proofs.lemmas.List.Elements.{All-get_or}
use Rattle.its_model.specs.Views.{program_of}
use Rattle.cert_types.specs.Views.{form_of}
use Rattle.cert_types.specs.cert_rules.Gaps.{is_shut}
use Rattle.rule_questions.specs.ProgramQuestions.{places_of}
use Rattle.rank_search.specs.Reading.{open_count, form_by}
use Rattle.rank_search.specs.ShutPlaces.{is_listed}
use Rattle.rank_search.proofs.Counts.{open-few}
use Rattle.rank_search.proofs.FunctionReading.{forms-push}
use Rattle.rule_questions.proofs.Lists.{read-again}
use Rattle.rank_search.proofs.ShutSets.{same-test}
use Rattle.rank_search.proofs.found.forms_from.Goals as goal

pub loop-symbol-preserved : goal.loop-symbol-preserved
loop-symbol-preserved c =
    let p = program_of c.args.p.now in
    let shut = places_of c.args.shut.now in
    let v = parameters_of (at c.args.numbers.now) in
    let k = c.loop-symbol.next in
    let s = get_or c.args.symbols.now c.loop-symbol.symbol-index 0 in
    let same : is_listed c.in_ok-closed.closed ≡ is_shut shut =
    same-test c.in_ok-closed.closed shut c.in_ok-closed.ensures in
    record {
      kept = forms-push p shut v c.args.symbols.now c.loop-symbol.symbol-index s k c.form_from.new.next
          (map form_of c.loop-symbol.forms.items) (map form_of c.push.new.self.items) _ (form_of c.in_ok-form.form)
          c.loop-symbol-test.true (read-again c.args.symbols.now c.loop-symbol.symbol-index 0 _ c.loop-symbol-test.true)
          c.loop-symbol.invariant.kept
          (subst (λ (closed : ℕ → ℕ → Bool). form_of c.in_ok-form.form ≡ form_by closed p v k s) same
          c.in_ok-form.ensures.form)
          (ap (map form_of) c.in_ok-push.ensures.items ∙ map-append form_of c.loop-symbol.forms.items
          (c.in_ok-form.form ∷ []))
          (subst (λ (closed : ℕ → ℕ → Bool). c.form_from.new.next ≡ k + open_count (closed s) 1 (arity_of p s) + 1) same
          c.in_ok-form.ensures.next);
      few =
          let e = c.in_ok-form.ensures.next in
          let i = c.loop-symbol.invariant.few in
          let m = All-get_or (λ (s : ℕ). arity_of p s
          ≤ 32) c.args.symbols.now c.loop-symbol.symbol-index 0 c.loop-symbol-test.true c.requires.few_places in
          let n = open-few (is_listed c.in_ok-closed.closed s) 1 (arity_of p s) in omega (arith, e, i, m, n);
    }
