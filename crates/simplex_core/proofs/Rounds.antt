-- One round of the sequence: what follows the tableau after k pivots.
use Rattle.std.proofs.Common.{◌≡◌, ℕ, ◌+◌, ◌<◌, ap, arith, ◌∙◌, subst, ◌⊎◌, inl, inr, Option, Some, None, Bool, true}
use Rattle.std.proofs.Common.{false, add-one}
use Rattle.std.specs.Prelude.{pos, if◌then◌else◌}
use Rattle.linear_forms.specs.LinearProgram.{LinearProgram, HasNonnegativeCosts}
use Rattle.simplex_core.specs.Tableau.{Tableau, pivot}
use Rattle.simplex_core.specs.Bland.{is_infeasible, entering, leaving, IsBest, is_candidate, step_in, pivot_at, next}
use Rattle.simplex_core.specs.Bland.{next_of, tableau_at}
use Rattle.simplex_core.specs.Outcome.{ComesAfter, IsInRange, ExceedsPivotLimit}
use Rattle.simplex_core.proofs.Searches.{last_or_before}
use Rattle.simplex_core.proofs.Choices.{lt-int_lt}
use Rattle.simplex_core.proofs.Rays.{has_candidate}
use Rattle.simplex_core.proofs.SequenceLaws.{entering-enters, entering-leaving, tableau_at-is_tableau}
use Rattle.simplex_core.proofs.Leaving.{best-leaves}

-- the next tableau, if a column enters and a row leaves
pub next-some : (p : LinearProgram) (t : Tableau) (c r : ℕ) → is_infeasible p t ≡ false → entering p t ≡ Some c → leaving p t c ≡ Some r → next p t ≡ Some (pivot t r c)
next-some p t c r feasible enters leaves =
    ap (λ (b : Bool). if b then None else step_in p t (entering p t)) feasible
    ∙ (ap (λ (o : Option ℕ). step_in p t o) enters ∙ ap (λ (o : Option ℕ). pivot_at t c o) leaves)

-- a row with an entry above 0 in a column
pub record Candidate (p : LinearProgram) (t : Tableau) (c : ℕ) : Type 0 where
  pub column : c < p.columns
  pub row : ℕ
  pub within : row < p.rows
  pub candidate : is_candidate t c row ≡ true

-- the entering column has a candidate
pub entering-candidate : (p : LinearProgram) (t : Tableau) (k c : ℕ) → HasNonnegativeCosts p → ComesAfter p k t → entering p t ≡ Some c → Candidate p t c
entering-candidate p t k c costs reached enters =
    let h = tableau_at-is_tableau p k t reached.is in
    let e = entering-enters p t c enters in
    let found = has_candidate p t e.q c costs h e.few (let l = e.column in omega arith) e.negative in
    record { column = e.column; row = found.0; within = found.1; candidate = lt-int_lt (pos 0) (t.entry found.0 c) found.2 }

-- if the allowed number of pivots has been made and another is needed, the limit on pivots is exceeded
pub budget-hits_limit : (p : LinearProgram) (t : Tableau) (k c : ℕ) → HasNonnegativeCosts p → ComesAfter p k t → IsInRange p t → is_infeasible p t ≡ false → entering p t ≡ Some c
    → ExceedsPivotLimit p k
budget-hits_limit p t k c costs reached range feasible enters =
    let found = entering-leaving p t c costs (tableau_at-is_tableau p k t reached.is) enters in
    record { last = t; reached = reached; in_range = range; following = pivot t found.0 c; goes_on = next-some p t c found.0 feasible enters found.1 }

-- a pivot at the best row leads to the next tableau
pub advanced : (p : LinearProgram) (t : Tableau) (k c r : ℕ) → ComesAfter p k t → IsInRange p t → is_infeasible p t ≡ false → entering p t ≡ Some c → IsBest p t c p.rows r
    → ComesAfter p (k + 1) (pivot t r c)
advanced p t k c r reached range feasible enters best = record {
  is = rw (add-one k) (ap (λ (o : Option Tableau). next_of p o) reached.is ∙ next-some p t c r feasible enters leaves);
  before = λ i u l is. go i u (last_or_before k i (omega arith)) is;
}
  where
    leaves : leaving p t c ≡ Some r
    leaves = best-leaves p t c r (tableau_at-is_tableau p k t reached.is) best

    go : (i : ℕ) (u : Tableau) → (i ≡ k) ⊎ (i < k) → tableau_at p i ≡ Some u → IsInRange p u
    go i u (inl s) is =
        let here = ap (λ (m : ℕ). tableau_at p m) s ∙ reached.is in
        let same : t ≡ u = cc in
        subst (λ (v : Tableau). IsInRange p v) same range
    go i u (inr l) is = reached.before i u l is
