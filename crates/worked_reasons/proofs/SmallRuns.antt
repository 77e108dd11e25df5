-- Sequences of tableaux of fractions, followed by computation, and the duals of fractions at which they end.
use Rattle.std.proofs.Common.{◌≡◌, ◌≢◌, ℕ, zero, suc, ◌+◌, ◌*◌, ◌<◌, ◌≤◌, ◌==◌, ◌&&◌, ◌||◌, not, Bool, true, false}
use Rattle.std.proofs.Common.{List, [], ◌∷◌, length, Some, refl, sym, ◌∙◌, ap, subst, arith}
use Rattle.std.specs.Prelude.{ℤ, pos, ◌*ℤ◌, ◌<ℤ◌, unsigned_abs, int_lt, int_div, nat_lt, slice_get}
use Rattle.std.proofs.Math.Nat.{le_of_dvd, mul-le-mul_left, le_of_mul-le-mul_right}
use Rattle.std.proofs.lemmas.Int.{unsigned_abs-mul}
use Rattle.std.proofs.lemmas.Bool.{ltb-true, not-true}
use Rattle.frac128.specs.declared.frac.Frac.{Frac}
use Rattle.frac128.specs.Fraction.{IsFraction}
use Rattle.frac128.specs.Lowest.{IsLowest}
use Rattle.frac128.proofs.LowestTerms.{size-positive}
use Rattle.frac128.proofs.Uniqueness.{divides_other}
use Rattle.model.proofs.Cases.{some_same}
use Rattle.model.proofs.Membership.{no_is_not_yes, same_number-sound}
use Rattle.int_laws.specs.NormalForm.{is_zero}
use Rattle.int_laws.specs.Polynomial.{variable, ◌⊗◌}
use Rattle.int_laws.proofs.Identities.{identity}
use Rattle.int_laws.proofs.OrderLaws.{mul-cancel_ℤ}
use Rattle.int_laws.proofs.ZeroLaws.{is_zero-false}
use Rattle.its_model.specs.linear_forms.Causes.{budget}
use Rattle.its_model.specs.linear_forms.LinearProgram.{LinearProgram}
use Rattle.simplex_core.specs.Bland.{is_infeasible, dual_of, tableau_at}
use Rattle.simplex_core.specs.Outcome.{IsSmallRatio, IsInRange, EndsInfeasibly}
use Rattle.simplex_core.specs.Problem.{table_size, widest}
use Rattle.simplex_core.specs.Search.{every}
use Rattle.simplex_core.specs.Sizes.{number_limit}
use Rattle.simplex_core.specs.Tableau.{Tableau, cost_row}
use Rattle.simplex_core.specs.HitsLimit.{HitsLimit}
use Rattle.simplex_core.proofs.Choices.{int_lt-true}
use Rattle.simplex_core.proofs.Ends.{infeasibility-ends}
use Rattle.simplex_core.proofs.Searches.{every-each}
use Rattle.worked_reasons.proofs.Runs.{passes_both, are_same, same-sound, tableau_after}
use Rattle.worked_reasons.proofs.Runs.{is_there, is_run, run-sound, run_in_range, run_after, run_hits_limit}

-- a numerator in lowest terms is no larger than that of another fraction of the same value, and so is the denominator
lowest_least : (n d a b : ℤ) → IsLowest n d → b ≢ pos 0 → n *ℤ b ≡ a *ℤ d
    → (unsigned_abs n ≤ unsigned_abs a) × (unsigned_abs d ≤ unsigned_abs b)
lowest_least n d a b lowest apart same =
    let positive = size-positive b apart in
    let dens = le_of_dvd positive (divides_other n d a b lowest same) in
    let sizes = sym (unsigned_abs-mul n b) ∙ (ap unsigned_abs same ∙ unsigned_abs-mul a d) in
    let products : unsigned_abs n * unsigned_abs b ≤ unsigned_abs a * unsigned_abs b =
    subst (λ (m : ℕ). m ≤ unsigned_abs a * unsigned_abs b) (sym sizes) (mul-le-mul_left (unsigned_abs a) dens) in
    (le_of_mul-le-mul_right products positive, dens)

-- a fraction is small if dividing its numerator and denominator by a factor above 0 leaves numbers below the limit
quotients_small : (z s g a b : ℤ) → pos 0 <ℤ g → a *ℤ g ≡ z → b *ℤ g ≡ s → b ≢ pos 0 → unsigned_abs a < number_limit
    → unsigned_abs b < number_limit → IsSmallRatio z s
quotients_small z s g a b over of_z of_s apart low_a low_b = record {
  each = λ n d positive lowest same.
      let least = lowest_least n d a b lowest apart (without_factor n d same) in
      (below (unsigned_abs n) (unsigned_abs a) least.0 low_a, below (unsigned_abs d) (unsigned_abs b) least.1 low_b);
}
  where
    without_factor : (n d : ℤ) → n *ℤ s ≡ z *ℤ d → n *ℤ b ≡ a *ℤ d
    without_factor n d same =
        mul-cancel_ℤ g (n *ℤ b) (a *ℤ d) over
        (identity (g ∷ n ∷ b ∷ []) (variable 0 ⊗ (variable 1 ⊗ variable 2)) (variable 1 ⊗ (variable 2 ⊗ variable 0)) refl
        ∙ (ap (λ (v : ℤ). n *ℤ v) of_s
        ∙ (same
        ∙ (ap (λ (v : ℤ). v *ℤ d) (sym of_z)
        ∙ identity (g ∷ a ∷ d ∷ []) ((variable 1 ⊗ variable 0) ⊗ variable 2) (variable 0 ⊗ (variable 1 ⊗ variable 2)) refl))))

    below : (m k : ℕ) → m ≤ k → k < number_limit → m < number_limit
    below m k l h = omega (arith, l, h)

-- whether dividing a numerator and a denominator by a factor above 0 leaves numbers below the limit
abbrev pub leaves_small : ℤ → ℤ → ℤ → Bool
leaves_small z s g =
    int_lt (pos 0) g
    && (are_same (int_div z g *ℤ g) z
    && (are_same (int_div s g *ℤ g) s
    && (not (is_zero (int_div s g))
    && (nat_lt (unsigned_abs (int_div z g)) number_limit && nat_lt (unsigned_abs (int_div s g)) number_limit))))

left_small : (z s g : ℤ) → leaves_small z s g ≡ true → IsSmallRatio z s
left_small z s g h =
    let a = passes_both _ _ h in
    let b = passes_both _ _ a.1 in
    let c = passes_both _ _ b.1 in
    let d = passes_both _ _ c.1 in
    let e = passes_both _ _ d.1 in
    quotients_small z s g (int_div z g) (int_div s g) (int_lt-true (pos 0) g a.0) (same-sound (int_div z g *ℤ g) z b.0)
    (same-sound (int_div s g *ℤ g) s c.0) (is_zero-false (int_div s g) (not-true (is_zero (int_div s g)) d.0))
    (ltb-true (unsigned_abs (int_div z g)) number_limit e.0) (ltb-true (unsigned_abs (int_div s g)) number_limit e.1)

-- whether this is so for one of some factors
abbrev pub one_leaves_small : List ℤ → ℤ → ℤ → Bool
one_leaves_small [] z s = false
one_leaves_small (g ∷ gs) z s = leaves_small z s g || one_leaves_small gs z s

one_left_small : (gs : List ℤ) (z s : ℤ) → one_leaves_small gs z s ≡ true → IsSmallRatio z s
one_left_small [] z s h = absurd (no_is_not_yes false refl h)
one_left_small (g ∷ gs) z s h = go (leaves_small z s g) refl h (one_left_small gs z s)
  where
    go : (b : Bool) → leaves_small z s g ≡ b → (b || one_leaves_small gs z s) ≡ true
        → (one_leaves_small gs z s ≡ true → IsSmallRatio z s) → IsSmallRatio z s
    go true e f rest = left_small z s g e
    go false e f rest = rest f

-- whether this is so for each number of a tableau; then the tableau is in range
abbrev pub is_small : List ℤ → LinearProgram → Tableau → Bool
is_small gs p t =
    every (p.rows + 3) (λ i. every (p.columns + p.rows + 1) (λ j. one_leaves_small gs (t.entry i j) (t.scale i)))

small_in_range : (gs : List ℤ) (p : LinearProgram) (t : Tableau) → is_small gs p t ≡ true → IsInRange p t
small_in_range gs p t h = record {
  each = λ i j inside.
      one_left_small gs (t.entry i j) (t.scale i)
      (every-each (p.columns + p.rows + 1) (λ k. one_leaves_small gs (t.entry i k) (t.scale i))
      (every-each (p.rows + 3)
      (λ l. every (p.columns + p.rows + 1) (λ k. one_leaves_small gs (t.entry l k) (t.scale l))) h i inside.row)
      j inside.column);
}

-- if another tableau follows after the allowed pivots, and factors show that all so far are in range, the program hits
-- the limit on the number of pivots
pub small_budget_run : (gs : List ℤ) (p : LinearProgram) (allowed : ℕ) → is_run p (is_small gs p) allowed allowed ≡ true
    → is_there (tableau_at p (suc allowed)) ≡ true → HitsLimit p allowed (budget allowed)
small_budget_run gs p allowed h onward =
    run_hits_limit p (is_small gs p) allowed (small_in_range gs p) (run-sound p (is_small gs p) allowed allowed h) onward

-- whether fractions are those of numbers over a denominator
abbrev pub are_fractions : List Frac → (ℕ → ℤ) → ℤ → Bool
are_fractions [] x d = true
are_fractions (f ∷ fs) x d = are_same (f.num *ℤ d) (x 0 *ℤ f.den) && are_fractions fs (λ j. x (suc j)) d

pub fractions-sound : (fs : List Frac) (x : ℕ → ℤ) (d : ℤ) → are_fractions fs x d ≡ true → (j : ℕ) (f : Frac)
    → slice_get fs j ≡ Some f → IsFraction f (x j) d
fractions-sound [] x d h j f e = absurd (let none : ⊥ = cc in none)
fractions-sound (g ∷ fs) x d h zero f e =
    let both = passes_both (are_same (g.num *ℤ d) (x 0 *ℤ g.den)) (are_fractions fs (λ j. x (suc j)) d) h in
    let same : g ≡ f = some_same _ f e in
    subst (λ (k : Frac). IsFraction k (x 0) d) same (same-sound (g.num *ℤ d) (x 0 *ℤ g.den) both.0)
fractions-sound (g ∷ fs) x d h (suc j) f e =
    let both = passes_both (are_same (g.num *ℤ d) (x 0 *ℤ g.den)) (are_fractions fs (λ j. x (suc j)) d) h in
    fractions-sound fs (λ j. x (suc j)) d both.1 j f e

-- whether a sequence in range, as some factors show, ends after this many pivots as infeasible with this dual
abbrev pub is_small_dual_run : List ℤ → LinearProgram → ℕ → ℕ → List Frac → Bool
is_small_dual_run gs p allowed k fs =
    is_run p (is_small gs p) allowed k
    && (is_infeasible p (tableau_after p k)
    && ((length fs == p.rows)
    && are_fractions fs (dual_of p (tableau_after p k)) ((tableau_after p k).scale (cost_row p 0))))

pub small_dual_run : (gs : List ℤ) (p : LinearProgram) (allowed k : ℕ) (fs : List Frac)
    → is_small_dual_run gs p allowed k fs ≡ true → (table_size p ≤ widest) × EndsInfeasibly p allowed fs k
small_dual_run gs p allowed k fs h =
    let a = passes_both _ _ h in
    let b = passes_both _ _ a.1 in
    let c = passes_both _ _ b.1 in
    let r = run-sound p (is_small gs p) allowed k a.0 in (
      r.fits,
      infeasibility-ends p (tableau_after p k) allowed k fs
          (run_after p (is_small gs p) allowed k (small_in_range gs p) r) r.within
          (run_in_range p (is_small gs p) allowed k (small_in_range gs p) r k (omega arith)) b.0
          (record {
            length_is = same_number-sound (length fs) p.rows c.0;
            each = fractions-sound fs (dual_of p (tableau_after p k)) ((tableau_after p k).scale (cost_row p 0)) c.1;
          }),
    )
