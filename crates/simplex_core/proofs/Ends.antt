-- What the last tableau gives: the basic solution with its prices, or the dual.
use Rattle.std.proofs.Common.{◌≡◌, ℕ, ◌≤◌, ap, arith, refl, sym, ◌∙◌, inl, inr, List, [], ◌∷◌, None, true, false}
use Rattle.std.specs.Prelude.{ℤ, pos, ◌*ℤ◌}
use Rattle.std.proofs.lemmas.Int.{ints}
use Rattle.frac128.specs.declared.frac.Frac.{Frac}
use Rattle.frac128.specs.Fraction.{IsFraction}
use Rattle.int_laws.specs.Polynomial.{variable, ◌⊗◌}
use Rattle.int_laws.proofs.Identities.{identity_by_one}
use Rattle.linear_forms.specs.LinearProgram.{LinearProgram}
use Rattle.simplex_core.specs.Tableau.{Tableau, unknowns, cost_row}
use Rattle.simplex_core.specs.Bland.{is_infeasible, entering, dual_of}
use Rattle.simplex_core.specs.Outcome.{ComesAfter, IsInRange, IsBasicValue, HoldsPoint, EndsOptimally, EndsInfeasibly}
use Rattle.simplex_core.specs.TableClauses.{HoldsBasicSolution, HoldsBasis}
use Rattle.simplex_core.proofs.Invariant.{IsTableauOf}
use Rattle.simplex_core.proofs.Points.{CommonScale, common_scale, point-zero}
use Rattle.simplex_core.proofs.Values.{basic_value, basic_point}
use Rattle.simplex_core.proofs.Leaving.{point-at}
use Rattle.simplex_core.proofs.SequenceLaws.{tableau_at-is_tableau}
use Rattle.simplex_core.proofs.Duals.{infeasible-dual}
use Rattle.simplex_core.proofs.Optima.{ends_optimal, optimal-solution}
use Rattle.simplex_core.proofs.Prices.{optimal-least}

-- a number of the basic solution is that of the basic point over its denominator
number-holds : (p : LinearProgram) (t : Tableau) (s : CommonScale p.rows t.scale) (j : ℕ) (f : Frac) → IsTableauOf p t → IsBasicValue p t j f
    → IsFraction f (basic_point p t s j) s.d
number-holds p t s j f h (inl found) =
    let i = found.0 in
    scaled f.num f.den (t.entry i (unknowns p)) (t.scale i) (s.q i) (s.times i found.1) found.3
    ∙ ap (λ (z : ℤ). z *ℤ f.den) (sym (point-at p t (basic_value p t s) i j h found.1 found.2))
  where
    scaled : (n d b sc q : ℤ) → q *ℤ sc ≡ s.d → n *ℤ sc ≡ b *ℤ d → n *ℤ s.d ≡ (b *ℤ q) *ℤ d
    scaled n d b sc q e f =
        ap (λ (z : ℤ). n *ℤ z) (sym e)
        ∙ identity_by_one (n ∷ d ∷ b ∷ sc ∷ q ∷ []) (variable 0 ⊗ (variable 4 ⊗ variable 3)) ((variable 2 ⊗ variable 4) ⊗ variable 1)
        (variable 4) (variable 0 ⊗ variable 3) (variable 2 ⊗ variable 1) f refl
number-holds p t s j f h (inr none) = both_zero f.num (basic_point p t s j) none.0 (point-zero p.rows t.basis (basic_value p t s) j (λ i l e. absurd (none.1 i l e)))
  where
    both_zero : (n x : ℤ) → n ≡ pos 0 → x ≡ pos 0 → n *ℤ s.d ≡ x *ℤ f.den
    both_zero n x e g = ap (λ (z : ℤ). z *ℤ s.d) e ∙ (base s.d f.den ∙ ap (λ (z : ℤ). z *ℤ f.den) (sym g))
      where
        base : (a b : ℤ) → pos 0 *ℤ a ≡ pos 0 *ℤ b
        base a b = omega (arith, ints)

-- at an end as optimal the list read off the table is a solution of least cost
pub optimum-ends : (p : LinearProgram) (t : Tableau) (allowed k : ℕ) (at : List Frac) (basis : List ℕ) → ComesAfter p k t → k ≤ allowed → IsInRange p t → is_infeasible p t ≡ false
    → entering p t ≡ None → HoldsBasicSolution p t at → HoldsBasis p t basis → EndsOptimally p allowed at basis k
optimum-ends p t allowed k at basis reached within range feasible done holds solved = record {
  within = within;
  last = t;
  reached = reached;
  in_range = range;
  feasible = feasible;
  done = done;
  rows = solved.length_is;
  basis_is = solved.each;
  x = basic_point p t s;
  d = s.d;
  holds = record { length_is = holds.length_is; each = λ j f read. number-holds p t s j f h (holds.each j f read) };
  solution = optimal-solution p t s h (ends_optimal p t h feasible done);
  least = optimal-least p t s h (ends_optimal p t h feasible done);
  basic = holds.each;
}
  where
    h : IsTableauOf p t
    h = tableau_at-is_tableau p k t reached.is

    s : CommonScale p.rows t.scale
    s = common_scale p.rows t.scale (λ i m. h.positive i (omega arith))

-- at an end as infeasible the list read off the table is a dual
pub infeasibility-ends : (p : LinearProgram) (t : Tableau) (allowed k : ℕ) (dual : List Frac) → ComesAfter p k t → k ≤ allowed → IsInRange p t → is_infeasible p t ≡ true
    → HoldsPoint p.rows dual (dual_of p t) (t.scale (cost_row p 0)) → EndsInfeasibly p allowed dual k
infeasibility-ends p t allowed k dual reached within range ends holds = record {
  within = within;
  last = t;
  reached = reached;
  in_range = range;
  infeasible = ends;
  read = holds;
  y = dual_of p t;
  d = t.scale (cost_row p 0);
  positive = h.positive (cost_row p 0) (omega arith);
  holds = holds;
  certified = infeasible-dual p t h ends;
}
  where
    h : IsTableauOf p t
    h = tableau_at-is_tableau p k t reached.is
