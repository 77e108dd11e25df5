use Rattle.std.proofs.Common.{◌≡◌, ℕ, ◌+◌, arith, refl, ap, ◌∙◌, subst, length}
use Rattle.std.specs.Prelude.{nat_abs}
use Rattle.simplex_core.specs.linear_forms.Forms.{at}
use Rattle.simplex_core.specs.linear_forms.Questions.{listed}
use Rattle.simplex_core.specs.declared.answers.Answer.{Answer}
use Rattle.simplex_core.specs.Problem.{program_of}
use Rattle.simplex_core.specs.HitsLimit.{IsWholeAnswer}
use Rattle.rank_search.proofs.EmptinessAnswers.{solution-room, solution-answer, dual-room, dual-answer}
use Rattle.rank_search.proofs.EmptinessAnswers.{limit_hit-answer}
use Rattle.rank_search.proofs.emptiness.guard_feasibility.Goals as goal

pub multipliers_from-requires : goal.multipliers_from-requires
multipliers_from-requires c =
    let p = c.in_ok-problem.problem in
    let h = subst (λ (a : Answer). IsWholeAnswer
    (program_of p) c.args.pivots a) c.in-Solution.is c.in_ok-solution.ensures in
    let l = solution-room c.args.prepared_rule.now c.requires c.args.pivots p c.in_ok-problem.ensures
    c.in-Solution.solution
    c.deref.result.now h c.deref.ensures.value in
    let e = c.len.ensures in
    let f = c.args.prepared_rule.now.rows.ok.0 in omega (arith, l, e, f)

pub returns-in-Solution : goal.returns-in-Solution
returns-in-Solution c =
    let p = c.in_ok-problem.problem in
    let h = subst (λ (a : Answer). IsWholeAnswer
    (program_of p) c.args.pivots a) c.in-Solution.is c.in_ok-solution.ensures in
    let many : c.len.result ≡ length c.args.prepared_rule.now.rows.items = let e = c.len.ensures
    in let f = c.args.prepared_rule.now.rows.ok.0 in omega (arith, e, f) in
    solution-answer c.args.prepared_rule.now c.requires c.args.pivots p c.in_ok-problem.ensures c.in-Solution.solution
    c.deref.result.now c.args.rule _ h c.deref.ensures.value refl
    (c.in_ok-multipliers-in-Solution.ensures ∙ ap
    (λ (n : ℕ). listed n (λ j. nat_abs (at c.deref.result.now (0 + j)))) many)

pub element_from-requires : goal.element_from-requires
element_from-requires c =
    let p = c.in_ok-problem.problem in
    let h = subst (λ (a : Answer). IsWholeAnswer
    (program_of p) c.args.pivots a) c.in-Dual.is c.in_ok-solution.ensures in
    dual-room c.args.prepared_rule.now c.requires c.args.pivots p c.in_ok-problem.ensures c.in-Dual.dual
    c.deref-in-Dual.result.now h c.deref-in-Dual.ensures.value

pub returns-in-Dual : goal.returns-in-Dual
returns-in-Dual c =
    let p = c.in_ok-problem.problem in
    let h = subst (λ (a : Answer). IsWholeAnswer
    (program_of p) c.args.pivots a) c.in-Dual.is c.in_ok-solution.ensures in
    dual-answer c.args.prepared_rule.now c.requires c.args.pivots p c.in_ok-problem.ensures c.in-Dual.dual
    c.deref-in-Dual.result.now c.args.rule c.in_ok-point-in-Dual.point h c.deref-in-Dual.ensures.value
    c.in_ok-point-in-Dual.ensures.parts c.in_ok-point-in-Dual.ensures.den

pub returns : goal.returns
returns c =
    let p = c.in_ok-problem.problem in
    let h = subst (λ (a : Answer). IsWholeAnswer
    (program_of p) c.args.pivots a) c.in-OutOfLimits.is c.in_ok-solution.ensures in
    limit_hit-answer c.args.prepared_rule.now c.requires c.args.pivots p c.in_ok-problem.ensures c.in-OutOfLimits.cause
    c.args.rule _ h
    refl refl
