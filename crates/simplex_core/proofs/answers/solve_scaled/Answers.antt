use Rattle.std.proofs.Common.{refl, ℕ, ◌≡◌, ◌≤◌, ◌^◌, subst, inl, inr, List, length, Option, Some, None}
use Rattle.std.specs.Prelude.{MatchOption}
use Rattle.frac128.specs.declared.frac.Frac.{Frac}
use Rattle.linear_forms.specs.Limits.{certificate_limit, point_limit}
use Rattle.simplex_core.specs.declared.scaling.Numerators.{Numerators}
use Rattle.simplex_core.specs.declared.problem.Solved.{Solved}
use Rattle.simplex_core.specs.Problem.{program_of}
use Rattle.simplex_core.specs.Outcome.{IsEnd}
use Rattle.simplex_core.specs.Scaling.{HasNoneScaled, AreScaled, AreWithin}
use Rattle.simplex_core.proofs.WholeAnswers.{solution-given, dual-given, solution-exceeds, dual-exceeds, dual-low}
use Rattle.simplex_core.proofs.answers.solve_scaled.Goals as goal

-- the result of scaling these fractions within these limits
abbrev IsScaling : List Frac → ℕ → ℕ → Option Numerators → Type 0
IsScaling fs den_limit limit o =
    MatchOption o (HasNoneScaled fs den_limit limit) (λ s. AreScaled fs s.numbers.items s.den × AreWithin limit (length s.numbers.items) s.numbers.items × (s.den ≤ den_limit))

-- scaling equal fractions within equal limits has equal results
same-scaling : (fs gs : List Frac) (a b limit : ℕ) (o o' : Option Numerators) → fs ≡ gs → a ≡ b → o ≡ o' → IsScaling fs a limit o → IsScaling gs b limit o'
same-scaling fs gs a b limit o o' e f g h = subst (λ x. IsScaling gs b limit x) g (subst (λ (n : ℕ). IsScaling gs n limit o) f (subst (λ (xs : List Frac). IsScaling xs a limit o) e h))

pub returns-in-Some : goal.returns-in-Some
returns-in-Some c =
    let p = program_of c.args.problem.now in
    let ends = subst (λ (s : Solved). IsEnd p c.args.pivots s) c.in-Ok-Optimal.field-0-is c.in-Ok-Optimal.ensures.1 in
    let scaling = same-scaling _ c.in-Ok-Optimal.at.items _ certificate_limit certificate_limit _ (Some c.in-Some.solution) c.as_slice.ensures.value c.from.ensures c.in-Some.is c.in_ok-solution-in-Ok-Optimal.ensures in
    solution-given p c.args.pivots _ c.in-Ok-Optimal.at.items _ c.in-Some.solution.numbers.items c.in-Some.solution.den c.in-Ok-Optimal.ensures.0 ends scaling.0 scaling.1 scaling.2

pub returns-in-Ok-Optimal : goal.returns-in-Ok-Optimal
returns-in-Ok-Optimal c =
    let p = program_of c.args.problem.now in
    let ends = subst (λ (s : Solved). IsEnd p c.args.pivots s) c.in-Ok-Optimal.field-0-is c.in-Ok-Optimal.ensures.1 in
    let scaling = same-scaling _ c.in-Ok-Optimal.at.items _ certificate_limit certificate_limit _ None c.as_slice.ensures.value c.from.ensures c.in-None.is c.in_ok-solution-in-Ok-Optimal.ensures in (
      c.in-Ok-Optimal.ensures.0,
      inl (record { at = c.in-Ok-Optimal.at.items; basis = _; k = _; ends = ends; exceeds = solution-exceeds c.in-Ok-Optimal.at.items scaling }),
    )

pub returns-in-Some-2 : goal.returns-in-Some-2
returns-in-Some-2 c =
    let p = program_of c.args.problem.now in
    let ends = subst (λ (s : Solved). IsEnd p c.args.pivots s) c.in-Ok-Infeasible.field-0-is c.in-Ok-Infeasible.ensures.1 in
    let scaling = same-scaling _ c.in-Ok-Infeasible.dual.items _ (2 ^ 76) point_limit _ (Some c.in-Some-2.dual) c.as_slice-in-Ok-Infeasible.ensures.value refl c.in-Some-2.is c.in_ok-dual-in-Ok-Infeasible.ensures in
    dual-given p c.args.pivots _ c.in-Ok-Infeasible.dual.items c.in-Some-2.dual.numbers.items c.in-Some-2.dual.den c.in-Ok-Infeasible.ensures.0 ends scaling.0 scaling.1

pub returns-in-Ok-Infeasible : goal.returns-in-Ok-Infeasible
returns-in-Ok-Infeasible c =
    let p = program_of c.args.problem.now in
    let ends = subst (λ (s : Solved). IsEnd p c.args.pivots s) c.in-Ok-Infeasible.field-0-is c.in-Ok-Infeasible.ensures.1 in
    let scaling = same-scaling _ c.in-Ok-Infeasible.dual.items _ (2 ^ 76) point_limit _ None c.as_slice-in-Ok-Infeasible.ensures.value refl c.in-None-2.is c.in_ok-dual-in-Ok-Infeasible.ensures in (
      c.in-Ok-Infeasible.ensures.0,
      inr (record { dual = c.in-Ok-Infeasible.dual.items; k = _; ends = ends; exceeds = dual-exceeds c.in-Ok-Infeasible.dual.items (dual-low p c.args.pivots _ c.in-Ok-Infeasible.dual.items ends) scaling }),
    )
