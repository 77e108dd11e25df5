use Rattle.std.proofs.Common.{◌≡◌, ℕ, ap, sym, subst, ◌∙◌, arith, length, map, List, nat_eq, if◌then◌else◌}
use Rattle.std.proofs.lemmas.Result.{IfOk-weaker}
use Rattle.simplex_core.specs.linear_forms.Forms.{Form}
use Rattle.simplex_core.specs.linear_forms.Combinations.{form_sum}
use Rattle.simplex_core.specs.linear_forms.RuleQuestions.{before_rule, opposite}
use Rattle.simplex_core.proofs.linear_forms.SolutionLaws.{length-map}
use Rattle.poly_terms.specs.declared.poly.Row.{Row}
use Rattle.poly_terms.specs.Views.{form_of}
use Rattle.lp_builder.specs.declared.description.Cost.{Cost}
use Rattle.lp_builder.specs.Descriptions.{goal_forms, AreParameters}
use Rattle.rule_questions.specs.SmallForms.{IsSmall}
use Rattle.rule_questions.proofs.EmptyProblems.{few-unknowns, few-rows}
use Rattle.local_size.specs.Asking.{kind_of, AreWritableWithin}
use Rattle.local_size.proofs.Problems.{sought-few, group-writable, problem-built}
use Rattle.local_size.proofs.QuestionRows.{fixed-small}
use Rattle.local_size.proofs.Values.{left-fits}
use Rattle.local_size.proofs.problem.kind_problem.Goals as goal

pub goals_of-requires : goal.goals_of-requires
goals_of-requires c =
    let a = few-unknowns c.args.prepared_rule.now c.requires.prepared in
    let b = left-fits c.args.prepared_rule.now c.requires.prepared in
    let l = sought-few c.args.prepared_rule.now.left (kind_of c.args.kind) (omega (arith, a, b)) in
    let e = ap (λ (ps : List ℕ). length ps) c.in_ok-places.ensures in
    let f = ap (λ (ps : List ℕ). length ps) c.deref.ensures.value in omega (arith, l, e, f)

pub difference-requires-clause-before : goal.difference-requires-clause-before
difference-requires-clause-before c = subst IsSmall (sym c.in_ok-fixed.ensures) (fixed-small (kind_of c.args.kind))

pub overflow_cast-len : goal.overflow_cast-len
overflow_cast-len c =
    let a = few-unknowns c.args.prepared_rule.now c.requires.prepared in
    let b = left-fits c.args.prepared_rule.now c.requires.prepared in
    let l = sought-few c.args.prepared_rule.now.left (kind_of c.args.kind) (omega (arith, a, b)) in
    let e = ap (λ (ps : List ℕ). length ps) c.in_ok-places.ensures in
    let f = c.len.ensures in
    let g = c.in_ok-places.places.ok.0 in omega (arith, l, e, f, g)

pub new-builder-requires : goal.new-builder-requires
new-builder-requires c =
    let a = few-unknowns c.args.prepared_rule.now c.requires.prepared in
    let b = left-fits c.args.prepared_rule.now c.requires.prepared in
    let l = sought-few c.args.prepared_rule.now.left (kind_of c.args.kind) (omega (arith, a, b)) in
    let e = ap (λ (ps : List ℕ). length ps) c.in_ok-places.ensures in
    let f = c.len.ensures in
    let g = c.in_ok-places.places.ok.0 in omega (arith, l, e, f, g)

pub add_group-requires-clause-writable : goal.add_group-requires-clause-writable
add_group-requires-clause-writable c =
    let f = c.len.ensures in
    let g = c.in_ok-places.places.ok.0 in
    let h = c.new-builder.ensures.parameters in
    group-writable c.args.prepared_rule.now c.requires.prepared (form_of c.args.value.now) c.requires.value (kind_of c.args.kind)
    c.requires.kind _ c.in_ok-places.places.items _ _ c.in_ok-goals.goals.items _ c.in_ok-places.ensures
    (omega (arith, f, g, h)) c.deref-3.ensures.value c.deref-4.ensures.value
    (subst (λ (ps : List ℕ). AreParameters (length ps) c.in_ok-goals.goals.items) c.deref.ensures.value
    c.in_ok-goals.ensures.listed)
    (subst (λ (ps : List ℕ). AreWritableWithin ps c.in_ok-goals.goals.items) c.deref.ensures.value
    c.in_ok-goals.ensures.writable)
    (c.in_ok-rest.ensures.same ∙ ap (λ (z : Form). form_sum z (opposite (form_of c.args.value.now)))
    c.in_ok-fixed.ensures) c.in_ok-rest.ensures.small

pub add_group-requires-clause-few_rows : goal.add_group-requires-clause-few_rows
add_group-requires-clause-few_rows c =
    let l = few-unknowns c.args.prepared_rule.now c.requires.prepared in
    let r = c.new-builder.ensures.rows in omega (arith, l, r)

pub add_group-requires-clause-few_columns : goal.add_group-requires-clause-few_columns
add_group-requires-clause-few_columns c =
    let a = few-unknowns c.args.prepared_rule.now c.requires.prepared in
    let b = left-fits c.args.prepared_rule.now c.requires.prepared in
    let l = sought-few c.args.prepared_rule.now.left (kind_of c.args.kind) (omega (arith, a, b)) in
    let e = ap (λ (ps : List ℕ). length ps) c.in_ok-places.ensures in
    let f = c.len.ensures in
    let g = c.in_ok-places.places.ok.0 in
    let k = few-rows c.args.prepared_rule.now c.requires.prepared in
    let r = c.new-builder.ensures.columns in
    let h = ap (λ (rows : List Row). length rows) c.deref-3.ensures.value in omega (arith, l, e, f, g, k, r, h)

pub finish-requires-clause-costs : goal.finish-requires-clause-costs
finish-requires-clause-costs c =
    let a = ap (λ (ns : List ℕ). length ns) c.in_ok-costs.ensures.sizes in
    let b = length-map (λ (x : Cost). x.size) c.in_ok-costs.costs.items in
    let d = length-map {B = ℕ} (λ i. if nat_eq i 0 then 0 else 1) c.deref-2.result.now in
    let p = ap (λ (ps : List ℕ). length ps) c.deref-2.ensures.value in
    let q = ap (λ (cs : List Cost). length cs) c.deref-5.ensures.value in
    let f = c.len.ensures in
    let g = c.in_ok-places.places.ok.0 in
    let h = c.new-builder.ensures.parameters in
    let k = c.in_ok-add_group.ensures.parameters in omega (arith, a, b, d, p, q, f, g, h, k)

pub returns : goal.returns
returns c =
    let f = c.len.ensures in
    let g = c.in_ok-places.places.ok.0 in
    let h = c.new-builder.ensures.parameters in
    IfOk-weaker c.finish.result _ _
    (λ p built. problem-built c.args.prepared_rule.now c.requires.prepared (form_of c.args.value.now) c.requires.value
    (kind_of c.args.kind) c.requires.kind c.new-builder.result.parameters c.in_ok-places.places.items
    c.deref-3.result.now c.deref-4.result.now c.in_ok-goals.goals.items c.in_ok-rest.rest c.deref-5.result.now
    c.in_ok-costs.costs.items c.add_group.new.self p c.in_ok-places.ensures (omega (arith, f, g, h))
    c.deref-3.ensures.value c.deref-4.ensures.value
    (subst (λ (ps : List ℕ). goal_forms 0 (length ps) c.in_ok-goals.goals.items ≡ map before_rule ps)
    c.deref.ensures.value c.in_ok-goals.ensures.goals)
    (c.in_ok-rest.ensures.same ∙ ap (λ (z : Form). form_sum z (opposite (form_of c.args.value.now)))
    c.in_ok-fixed.ensures)
    c.deref-5.ensures.value
    (subst (λ (ps : List ℕ). map (λ (x : Cost). x.size) c.in_ok-costs.costs.items
    ≡ map (λ i. if nat_eq i 0 then 0 else 1) ps) c.deref-2.ensures.value c.in_ok-costs.ensures.sizes)
    (subst (λ (ps : List ℕ). map (λ (x : Cost). x.height) c.in_ok-costs.costs.items
    ≡ map (λ i. if nat_eq i 0 then 1 else 0) ps) c.deref-2.ensures.value c.in_ok-costs.ensures.heights)
    (c.in_ok-add_group.ensures.holds _ c.new-builder.ensures.holds) built) c.finish.ensures
