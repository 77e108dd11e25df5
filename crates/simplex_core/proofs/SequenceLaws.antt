-- Each tableau of the sequence is one of the program, and the sequence ends only as infeasible or as optimal.
use Rattle.std.proofs.Common.{◌≡◌, ℕ, zero, suc, ◌<◌, arith, refl, ◌∙◌, subst, Bool, true, false, Option}
use Rattle.std.proofs.Common.{Some, None}
use Rattle.std.specs.Prelude.{pos, ◌<ℤ◌, if◌then◌else◌}
use Rattle.linear_forms.specs.LinearProgram.{LinearProgram, HasNonnegativeCosts}
use Rattle.simplex_core.specs.Search.{or_else, least}
use Rattle.simplex_core.specs.Tableau.{Tableau, cost_row, first_tableau, pivot}
use Rattle.simplex_core.specs.Bland.{may_enter, entering, leaving, is_infeasible, pivot_at, step_in, next, next_of}
use Rattle.simplex_core.specs.Bland.{tableau_at}
use Rattle.simplex_core.proofs.Searches.{and-both, least-found}
use Rattle.simplex_core.proofs.Invariant.{IsTableauOf}
use Rattle.simplex_core.proofs.First.{first-is_tableau}
use Rattle.simplex_core.proofs.Pivots.{pivot-is_tableau}
use Rattle.simplex_core.proofs.Choices.{int_lt-true, leaving-there, leaving-is_pivot}
use Rattle.simplex_core.proofs.Rays.{has_candidate}

-- column c is one of the program's that a cost row makes negative
pub record Enters (p : LinearProgram) (t : Tableau) (c : ℕ) : Type 0 where
  pub column : c < p.columns
  pub q : ℕ
  pub few : q < 3
  pub negative : t.entry (cost_row p q) c <ℤ pos 0

-- the least column that may enter by a cost row is one that it makes negative
enters_by : (p : LinearProgram) (t : Tableau) (q c : ℕ) → q < 3 → least p.columns (may_enter p t q) ≡ Some c → Enters p t c
enters_by p t q c l h =
    let found = least-found p.columns (may_enter p t q) c h in
    record { column = found.0; q = q; few = l; negative = int_lt-true _ _ (and-both _ _ found.1).0 }

-- the entering column is one that a cost row makes negative
pub entering-enters : (p : LinearProgram) (t : Tableau) (c : ℕ) → entering p t ≡ Some c → Enters p t c
entering-enters p t c h = go (least p.columns (may_enter p t 0)) (least p.columns (may_enter p t 1)) refl refl h
  where
    go : (a b : Option ℕ) → least p.columns (may_enter p t 0) ≡ a → least p.columns (may_enter p t 1) ≡ b
        → or_else a (or_else b (least p.columns (may_enter p t 2))) ≡ Some c → Enters p t c
    go (Some j) b ea eb e = enters_by p t 0 c (omega arith) (ea ∙ e)
    go None (Some j) ea eb e = enters_by p t 1 c (omega arith) (eb ∙ e)
    go None None ea eb e = enters_by p t 2 c (omega arith) e

-- an entering column has a leaving row
pub entering-leaving : (p : LinearProgram) (t : Tableau) (c : ℕ) → HasNonnegativeCosts p → IsTableauOf p t → entering p t ≡ Some c → (r : ℕ) × (leaving p t c ≡ Some r)
entering-leaving p t c costs h e =
    let enters = entering-enters p t c e in
    let found = has_candidate p t enters.q c costs h enters.few (let l = enters.column in omega arith) enters.negative in
    leaving-there p t c found.0 found.1 found.2

-- the next tableau is the pivot at the entering column and the leaving row
pub record IsNext (p : LinearProgram) (t t' : Tableau) : Type 0 where
  pub column : ℕ
  pub row : ℕ
  pub goes_on : is_infeasible p t ≡ false
  pub enters : entering p t ≡ Some column
  pub leaves : leaving p t column ≡ Some row
  pub pivoted : pivot t row column ≡ t'

-- if there is a next tableau, it is such a pivot
pub next-is : (p : LinearProgram) (t t' : Tableau) → next p t ≡ Some t' → IsNext p t t'
next-is p t t' h = go (is_infeasible p t) (entering p t) refl refl h
  where
    at_row : (c : ℕ) (o : Option ℕ) → is_infeasible p t ≡ false → entering p t ≡ Some c → leaving p t c ≡ o → pivot_at t c o ≡ Some t' → IsNext p t t'
    at_row c None f e l h = cc
    at_row c (Some r) f e l h = record { column = c; row = r; goes_on = f; enters = e; leaves = l; pivoted = cc }

    go : (v : Bool) (o : Option ℕ) → is_infeasible p t ≡ v → entering p t ≡ o → (if v then None else step_in p t o) ≡ Some t' → IsNext p t t'
    go true o f e h = cc
    go false None f e h = cc
    go false (Some c) f e h = at_row c (leaving p t c) f e refl h

-- the next tableau is a tableau of the program
pub next-is_tableau : (p : LinearProgram) (t t' : Tableau) → IsTableauOf p t → next p t ≡ Some t' → IsTableauOf p t'
next-is_tableau p t t' h e =
    let n = next-is p t t' e in
    let enters = entering-enters p t n.column n.enters in
    subst (λ (u : Tableau). IsTableauOf p u) n.pivoted
    (pivot-is_tableau p t n.row n.column h (leaving-is_pivot p t n.column n.row (let l = enters.column in omega arith) n.leaves))

-- each tableau of the sequence is a tableau of the program
pub tableau_at-is_tableau : (p : LinearProgram) (k : ℕ) (t : Tableau) → tableau_at p k ≡ Some t → IsTableauOf p t
tableau_at-is_tableau p zero t h = let e : first_tableau p ≡ t = cc in subst (λ (u : Tableau). IsTableauOf p u) e (first-is_tableau p)
tableau_at-is_tableau p (suc k) t h = go (tableau_at p k) refl h (λ u. tableau_at-is_tableau p k u)
  where
    go : (o : Option Tableau) → tableau_at p k ≡ o → next_of p o ≡ Some t → ((u : Tableau) → tableau_at p k ≡ Some u → IsTableauOf p u) → IsTableauOf p t
    go None e h ih = cc
    go (Some u) e h ih = next-is_tableau p u t (ih u e) h
