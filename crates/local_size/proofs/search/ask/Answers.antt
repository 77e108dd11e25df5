use Rattle.std.proofs.Common.{◌≡◌, refl, subst, arith, length, map}
use Rattle.simplex_core.proofs.linear_forms.SolutionLaws.{length-map}
use Rattle.guard_prep.specs.Views.{prepared_of}
use Rattle.poly_terms.specs.Views.{form_of}
use Rattle.cert_types.specs.Views.{side_bound_of}
use Rattle.simplex_core.specs.declared.answers.Answer.{Answer}
use Rattle.simplex_core.specs.Problem.{program_of}
use Rattle.simplex_core.specs.HitsLimit.{IsWholeAnswer}
use Rattle.local_size.specs.Asking.{kind_of}
use Rattle.local_size.specs.Places.{local_forms}
use Rattle.local_size.proofs.Searches.{solution-room, side_bound-found, dual-room, none-found, limit-passed}
use Rattle.local_size.proofs.search.ask.Goals as goal

pub side_bound_from-requires-clause-room : goal.side_bound_from-requires-clause-room
side_bound_from-requires-clause-room c =
    let p = c.in_ok-problem.problem in
    let h = subst (λ (a : Answer). IsWholeAnswer
    (program_of p) c.args.pivots a) c.in-Solution.is c.in_ok-solution.ensures in
    let many : c.len.result ≡ length (map form_of c.args.prepared_rule.now.rows.items) =
    let e = c.len.ensures in let f = c.args.prepared_rule.now.rows.ok.0 in
    let g = length-map form_of c.args.prepared_rule.now.rows.items in omega (arith, e, f, g) in
    solution-room (local_forms (prepared_of c.args.prepared_rule.now)) (form_of c.args.value.now) (kind_of c.args.kind)
    c.args.pivots p c.in_ok-problem.ensures c.in-Solution.solution c.len.result h many

pub returns-in-Solution : goal.returns-in-Solution
returns-in-Solution c =
    let p = c.in_ok-problem.problem in
    let h = subst (λ (a : Answer). IsWholeAnswer
    (program_of p) c.args.pivots a) c.in-Solution.is c.in_ok-solution.ensures in
    let many : c.len.result ≡ length (map form_of c.args.prepared_rule.now.rows.items) =
    let e = c.len.ensures in let f = c.args.prepared_rule.now.rows.ok.0 in
    let g = length-map form_of c.args.prepared_rule.now.rows.items in omega (arith, e, f, g) in
    side_bound-found (local_forms (prepared_of c.args.prepared_rule.now)) (form_of c.args.value.now) (kind_of c.args.kind)
    c.args.pivots p c.in_ok-problem.ensures c.in-Solution.solution c.len.result
    (side_bound_of c.in_ok-side_bound-in-Solution.side_bound) h many c.in_ok-side_bound-in-Solution.ensures

pub element_from-requires : goal.element_from-requires
element_from-requires c =
    let p = c.in_ok-problem.problem in
    let h = subst (λ (a : Answer). IsWholeAnswer
    (program_of p) c.args.pivots a) c.in-Dual.is c.in_ok-solution.ensures in
    dual-room (local_forms (prepared_of c.args.prepared_rule.now)) (form_of c.args.value.now) (kind_of c.args.kind)
    c.args.pivots p c.in_ok-problem.ensures c.in-Dual.dual c.deref.result.now h c.deref.ensures.value

pub returns-in-Dual : goal.returns-in-Dual
returns-in-Dual c =
    let p = c.in_ok-problem.problem in
    let h = subst (λ (a : Answer). IsWholeAnswer
    (program_of p) c.args.pivots a) c.in-Dual.is c.in_ok-solution.ensures in
    none-found (local_forms (prepared_of c.args.prepared_rule.now)) (form_of c.args.value.now) (kind_of c.args.kind)
    c.args.pivots p c.in_ok-problem.ensures c.in-Dual.dual c.deref.result.now c.in_ok-ray-in-Dual.ray.parts.items h
    c.deref.ensures.value c.in_ok-ray-in-Dual.ensures.parts

pub returns : goal.returns
returns c =
    let p = c.in_ok-problem.problem in
    let h = subst (λ (a : Answer). IsWholeAnswer
    (program_of p) c.args.pivots a) c.in-OutOfLimits.is c.in_ok-solution.ensures in
    limit-passed (local_forms (prepared_of c.args.prepared_rule.now)) (form_of c.args.value.now) (kind_of c.args.kind)
    c.args.pivots p c.in_ok-problem.ensures c.in-OutOfLimits.cause _ h refl
