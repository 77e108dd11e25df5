-- Sequences of tableaux of integers, followed by computation; and whether they exceed the limit of pivots.
use Rattle.std.proofs.Common.{◌≡◌, ℕ, suc, ◌+◌, ◌<◌, ◌≤◌, ◌&&◌, Bool, true, false, Option, Some, None, refl, sym, ap, subst}
use Rattle.std.proofs.Common.{arith}
use Rattle.std.specs.Prelude.{ℤ, pos, ◌-ℤ◌, unsigned_abs, nat_lt}
use Rattle.std.proofs.lemmas.Int.{ints}
use Rattle.std.proofs.lemmas.Bool.{ltb-true}
use Rattle.frac128.proofs.LowestTerms.{whole_is_lowest}
use Rattle.frac128.proofs.Uniqueness.{same_parts}
use Rattle.model.proofs.Membership.{no_is_not_yes}
use Rattle.int_laws.specs.NormalForm.{is_zero}
use Rattle.int_laws.proofs.ZeroLaws.{is_zero-true}
use Rattle.its_model.specs.linear_forms.Causes.{budget}
use Rattle.its_model.specs.linear_forms.LinearProgram.{LinearProgram}
use Rattle.simplex_core.specs.Bland.{next, next_of, tableau_at}
use Rattle.simplex_core.specs.Outcome.{IsSmallRatio, IsInRange, ComesAfter}
use Rattle.simplex_core.specs.Problem.{table_size, widest}
use Rattle.simplex_core.specs.Search.{every}
use Rattle.simplex_core.specs.Sizes.{number_limit}
use Rattle.simplex_core.specs.Tableau.{Tableau, first_tableau}
use Rattle.simplex_core.specs.HitsLimit.{HitsLimit}
use Rattle.simplex_core.proofs.Searches.{every-each}

-- both parts of a test pass
abbrev pub passes_both : (a b : Bool) → (a && b) ≡ true → (a ≡ true) × (b ≡ true)
passes_both true true e = (refl, refl)
passes_both true false e = absurd (no_is_not_yes false refl e)
passes_both false b e = absurd (no_is_not_yes false refl e)

-- an integer below the limit is a small ratio over 1
whole_small : (z s : ℤ) → s ≡ pos 1 → unsigned_abs z < number_limit → IsSmallRatio z s
whole_small z s one low = subst (λ (v : ℤ). IsSmallRatio z v) (sym one) (record {
  each = λ n d positive lowest same.
      let parts = same_parts n d z (pos 1) positive (omega (arith, ints)) lowest (whole_is_lowest z) same in (
        subst (λ (w : ℤ). unsigned_abs w < number_limit) (sym parts.0) low,
        subst (λ (w : ℤ). unsigned_abs w < number_limit) (sym parts.1) one_low,
      );
})
  where
    one_low : unsigned_abs (pos 1) < number_limit
    one_low = omega (arith, ints)

-- whether two numbers are the same
abbrev pub are_same : ℤ → ℤ → Bool
are_same a b = is_zero (a -ℤ b)

pub same-sound : (a b : ℤ) → are_same a b ≡ true → a ≡ b
same-sound a b h = let e = is_zero-true (a -ℤ b) h in omega (arith, ints, e)

-- whether the numbers of a row are whole and below the limit, and whether those of all rows are
abbrev pub is_whole_row : LinearProgram → Tableau → ℕ → Bool
is_whole_row p t i =
    are_same (t.scale i) (pos 1)
    && every (p.columns + p.rows + 1) (λ j. nat_lt (unsigned_abs (t.entry i j)) number_limit)

abbrev pub is_whole : LinearProgram → Tableau → Bool
is_whole p t = every (p.rows + 3) (is_whole_row p t)

row_whole : (p : LinearProgram) (t : Tableau) → is_whole p t ≡ true → (i : ℕ) → i < p.rows + 3
    → (t.scale i ≡ pos 1) × ((j : ℕ) → j < p.columns + p.rows + 1 → unsigned_abs (t.entry i j) < number_limit)
row_whole p t h i low =
    let both = passes_both (are_same (t.scale i) (pos 1))
    (every (p.columns + p.rows + 1) (λ j. nat_lt (unsigned_abs (t.entry i j)) number_limit))
    (every-each (p.rows + 3) (is_whole_row p t) h i low) in (
      same-sound (t.scale i) (pos 1) both.0,
      λ j within. ltb-true (unsigned_abs (t.entry i j)) number_limit
          (every-each (p.columns + p.rows + 1) (λ k. nat_lt (unsigned_abs (t.entry i k)) number_limit) both.1 j within),
    )

-- if all numbers are whole and below the limit, the tableau is in range
whole_in_range : (p : LinearProgram) (t : Tableau) → is_whole p t ≡ true → IsInRange p t
whole_in_range p t h = record {
  each = λ i j inside.
      let row = row_whole p t h i inside.row in
      whole_small (t.entry i j) (t.scale i) row.0 (row.1 j inside.column);
}

-- the tableau after some pivots; where there is none, the first
abbrev pub tableau_in : LinearProgram → Option Tableau → Tableau
tableau_in p None = first_tableau p
tableau_in p (Some t) = t

abbrev pub tableau_after : LinearProgram → ℕ → Tableau
tableau_after p k = tableau_in p (tableau_at p k)

-- whether there is a tableau
abbrev pub is_there : Option Tableau → Bool
is_there None = false
is_there (Some t) = true

there_is : (p : LinearProgram) (o : Option Tableau) → is_there o ≡ true → o ≡ Some (tableau_in p o)
there_is p None e = absurd (no_is_not_yes false refl e)
there_is p (Some t) e = refl

-- the table isn't too wide; after this many of the allowed pivots there is a tableau, and all tableaux so far pass a
-- test
pub record IsRun (p : LinearProgram) (test : Tableau → Bool) (allowed k : ℕ) : Type 0 where
  pub fits : table_size p ≤ widest
  pub within : k ≤ allowed
  pub reached : is_there (tableau_at p k) ≡ true
  pub passed : every (suc k) (λ i. test (tableau_after p i)) ≡ true

-- whether there is such a run
abbrev pub is_run : LinearProgram → (Tableau → Bool) → ℕ → ℕ → Bool
is_run p test allowed k =
    nat_lt (table_size p) (suc widest)
    && (nat_lt k (suc allowed)
    && (is_there (tableau_at p k) && every (suc k) (λ i. test (tableau_after p i))))

pub run-sound : (p : LinearProgram) (test : Tableau → Bool) (allowed k : ℕ) → is_run p test allowed k ≡ true
    → IsRun p test allowed k
run-sound p test allowed k h =
    let a = passes_both (nat_lt (table_size p) (suc widest))
    (nat_lt k (suc allowed) && (is_there (tableau_at p k) && every (suc k) (λ i. test (tableau_after p i)))) h in
    let b = passes_both (nat_lt k (suc allowed))
    (is_there (tableau_at p k) && every (suc k) (λ i. test (tableau_after p i))) a.1 in
    let c = passes_both (is_there (tableau_at p k)) (every (suc k) (λ i. test (tableau_after p i))) b.1 in
    record {
      fits = below (table_size p) widest (ltb-true (table_size p) (suc widest) a.0);
      within = below k allowed (ltb-true k (suc allowed) b.0);
      reached = c.0;
      passed = c.1;
    }
  where
    below : (m n : ℕ) → m < suc n → m ≤ n
    below m n l = omega (arith, l)

-- if all tableaux that pass the test are in range, all so far are, and the last one comes after this many pivots
pub run_in_range : (p : LinearProgram) (test : Tableau → Bool) (allowed k : ℕ)
    → ((t : Tableau) → test t ≡ true → IsInRange p t) → IsRun p test allowed k → (i : ℕ) → i < suc k
    → IsInRange p (tableau_after p i)
run_in_range p test allowed k sound r i low =
    sound (tableau_after p i) (every-each (suc k) (λ l. test (tableau_after p l)) r.passed i low)

pub run_after : (p : LinearProgram) (test : Tableau → Bool) (allowed k : ℕ)
    → ((t : Tableau) → test t ≡ true → IsInRange p t) → IsRun p test allowed k → ComesAfter p k (tableau_after p k)
run_after p test allowed k sound r = record {
  is = there_is p (tableau_at p k) r.reached;
  before = λ i u low e.
      subst (λ (t : Tableau). IsInRange p t) (ap (tableau_in p) e)
      (run_in_range p test allowed k sound r i (omega (arith, low)));
}

-- all tableaux so far have integers
abbrev pub IsWholeRun : LinearProgram → ℕ → ℕ → Type 0
IsWholeRun p allowed k = IsRun p (is_whole p) allowed k

-- whether all tableaux so far have integers
abbrev pub is_whole_run : LinearProgram → ℕ → ℕ → Bool
is_whole_run p allowed k = is_run p (is_whole p) allowed k

pub whole_run : (p : LinearProgram) (allowed k : ℕ) → is_whole_run p allowed k ≡ true → IsWholeRun p allowed k
whole_run p allowed k h = run-sound p (is_whole p) allowed k h

pub run_whole : (p : LinearProgram) (allowed k : ℕ) → IsWholeRun p allowed k → (i : ℕ) → i < suc k
    → IsInRange p (tableau_after p i)
run_whole p allowed k r i low = run_in_range p (is_whole p) allowed k (whole_in_range p) r i low

pub run_comes : (p : LinearProgram) (allowed k : ℕ) → IsWholeRun p allowed k → ComesAfter p k (tableau_after p k)
run_comes p allowed k r = run_after p (is_whole p) allowed k (whole_in_range p) r

pub run_scale : (p : LinearProgram) (allowed k : ℕ) → IsWholeRun p allowed k → (i : ℕ) → i < p.rows + 3
    → (tableau_after p k).scale i ≡ pos 1
run_scale p allowed k r i low =
    (row_whole p (tableau_after p k)
    (every-each (suc k) (λ l. is_whole p (tableau_after p l)) r.passed k (omega arith)) i low).0

-- if another tableau follows after the allowed pivots, and the tableaux that pass the test are in range, the program
-- hits the limit on the number of pivots
pub run_hits_limit : (p : LinearProgram) (test : Tableau → Bool) (allowed : ℕ) → ((t : Tableau) → test t ≡ true → IsInRange p t)
    → IsRun p test allowed allowed → is_there (tableau_at p (suc allowed)) ≡ true → HitsLimit p allowed (budget allowed)
run_hits_limit p test allowed sound r onward = (
  r.fits,
  refl,
  record {
    last = tableau_after p allowed;
    reached = run_after p test allowed allowed sound r;
    in_range = run_in_range p test allowed allowed sound r allowed (omega arith);
    following = tableau_after p (suc allowed);
    goes_on = follows (tableau_at p allowed) r.reached onward;
  },
)
  where
    follows : (o : Option Tableau) → is_there o ≡ true → is_there (next_of p o) ≡ true
        → next p (tableau_in p o) ≡ Some (tableau_in p (next_of p o))
    follows None e f = absurd (no_is_not_yes false refl e)
    follows (Some t) e f = there_is p (next p t) f

-- if all tableaux so far have integers and another one follows, the program hits the limit on the number of pivots
pub budget_run : (p : LinearProgram) (allowed : ℕ) → is_whole_run p allowed allowed ≡ true
    → is_there (tableau_at p (suc allowed)) ≡ true → HitsLimit p allowed (budget allowed)
budget_run p allowed h onward = run_hits_limit p (is_whole p) allowed (whole_in_range p) (whole_run p allowed allowed h) onward

-- if no tableau follows, the program doesn't hit it
pub no_budget : (p : LinearProgram) (allowed n : ℕ) → is_there (tableau_at p (suc allowed)) ≡ false
    → ¬ (HitsLimit p allowed (budget n))
no_budget p allowed n over h =
    no_is_not_yes (is_there (tableau_at p (suc allowed))) over
    (subst (λ (o : Option Tableau). is_there (next_of p o) ≡ true) (sym h.2.reached.is)
    (subst (λ (o : Option Tableau). is_there o ≡ true) (sym h.2.goes_on) refl))
