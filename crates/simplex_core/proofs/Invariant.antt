-- Invariants of each tableau of a program.
use Rattle.std.proofs.Common.{◌≡◌, ◌≢◌, ℕ, ◌+◌, ◌<◌, true, false, ◌⊎◌, inl, inr}
use Rattle.std.specs.Prelude.{ℤ, pos, ◌+ℤ◌, ◌-ℤ◌, ◌*ℤ◌, ◌≤ℤ◌, ◌<ℤ◌, nat_eq}
use Rattle.std.proofs.lemmas.Bool.Decides.{eqb_tells}
use Rattle.int_laws.specs.Sums.{sum_to, dot}
use Rattle.linear_forms.specs.LinearProgram.{LinearProgram}
use Rattle.simplex_core.specs.Tableau.{Tableau, artificial, unknowns, cost_row, equation, cost}

-- the multiplier of equation k in cost row q: the amount by which the artificial unknown's reduced cost exceeds its
-- cost
abbrev pub weight : LinearProgram → Tableau → ℕ → ℕ → ℤ
weight p t q k = t.entry (cost_row p q) (artificial p k) -ℤ t.scale (cost_row p q) *ℤ cost p q (artificial p k)

-- x over d solves the rows of a tableau
abbrev pub SolvesRows : LinearProgram → Tableau → (ℕ → ℤ) → ℤ → Type 0
SolvesRows p t x d = (i : ℕ) → i < p.rows → dot (unknowns p) (t.entry i) x ≡ t.entry i (unknowns p) *ℤ d

-- x over d solves the equations with the artificial unknowns
abbrev pub SolvesEquations : LinearProgram → (ℕ → ℤ) → ℤ → Type 0
SolvesEquations p x d = (i : ℕ) → i < p.rows → dot (unknowns p) (equation p i) x ≡ equation p i (unknowns p) *ℤ d

-- a tableau of the program: its scales are above 0; the columns of the basis are units; the right sides are at least 0;
-- each row is a sum of multiples of the equations, which the artificial columns show; each cost row is its costs and
-- such a sum; and each solution of its rows solves the equations
pub record IsTableauOf (p : LinearProgram) (t : Tableau) : Type 0 where
  pub positive : (i : ℕ) → i < p.rows + 3 → pos 0 <ℤ t.scale i
  pub basic : (i : ℕ) → i < p.rows → t.basis i < unknowns p
  pub own : (i : ℕ) → i < p.rows → t.entry i (t.basis i) ≡ t.scale i
  pub other : (i k : ℕ) → i < p.rows + 3 → k < p.rows → i ≢ k → t.entry i (t.basis k) ≡ pos 0
  pub right : (i : ℕ) → i < p.rows → pos 0 ≤ℤ t.entry i (unknowns p)
  pub rows_are : (i j : ℕ) → i < p.rows → j < unknowns p → t.entry i j ≡ sum_to p.rows (λ k. t.entry i (artificial p k) *ℤ equation p k j)
  pub costs_are : (q j : ℕ) → q < 3 → j < unknowns p
      → t.entry (cost_row p q) j ≡ t.scale (cost_row p q) *ℤ cost p q j +ℤ sum_to p.rows (λ k. weight p t q k *ℤ equation p k j)
  pub back : (x : ℕ → ℤ) (d : ℤ) → SolvesRows p t x d → SolvesEquations p x d

-- Two numbers are equal, or they aren't.
pub same_or_other : (i k : ℕ) → (i ≡ k) ⊎ (i ≢ k)
same_or_other i k = go (eqb_tells i k)
  where
    go : ((nat_eq i k ≡ true) × (i ≡ k)) ⊎ ((nat_eq i k ≡ false) × (i ≢ k)) → (i ≡ k) ⊎ (i ≢ k)
    go (inl e) = inl e.1
    go (inr d) = inr d.1
