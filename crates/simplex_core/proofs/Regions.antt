-- The first tableau by parts: the program's columns, the artificial columns, and the right sides.
use Rattle.std.proofs.Common.{◌≡◌, ◌≢◌, ℕ, zero, suc, ◌<◌, ◌≤◌, ap, arith, refl, sym, ◌∙◌, subst, Bool, true, false}
use Rattle.std.specs.Prelude.{ℤ, pos, negsuc, ◌-ℤ◌, ◌*ℤ◌, ◌≤ℤ◌, nat_lt, nat_eq, int_lt, if◌then◌else◌}
use Rattle.std.proofs.lemmas.Bool.{lt-ltb, ltb-true, eq-eqb, ne_eqb}
use Rattle.std.proofs.lemmas.Int.{ints}
use Rattle.linear_forms.specs.LinearProgram.{LinearProgram}
use Rattle.simplex_core.specs.Tableau.{Tableau, artificial, unknowns, cost_row, sign_of, equation, cost}
use Rattle.simplex_core.specs.Tableau.{first_reduced_cost, first_tableau, pivot}

-- a choice whose order test passes
pub choose-below : (j n : ℕ) (a b : ℤ) → j < n → (if nat_lt j n then a else b) ≡ a
choose-below j n a b l = ap (λ (v : Bool). if v then a else b) (lt-ltb j n l)

-- a choice whose order test fails
pub choose-above : (j n : ℕ) (a b : ℤ) → n ≤ j → (if nat_lt j n then a else b) ≡ b
choose-above j n a b l = go (nat_lt j n) refl
  where
    go : (v : Bool) → nat_lt j n ≡ v → (if nat_lt j n then a else b) ≡ b
    go true e = absurd (omega (arith, ltb-true j n e))
    go false e = ap (λ (v : Bool). if v then a else b) e

-- a choice whose equality test passes
pub choose-same : (i j : ℕ) (a b : ℤ) → i ≡ j → (if nat_eq i j then a else b) ≡ a
choose-same i j a b e = ap (λ (v : Bool). if v then a else b) (eq-eqb i j e)

-- a choice whose equality test fails
pub choose-other : (i j : ℕ) (a b : ℤ) → i ≢ j → (if nat_eq i j then a else b) ≡ b
choose-other i j a b d = ap (λ (v : Bool). if v then a else b) (ne_eqb i j d)

-- an equation's number in a column of the program
pub equation-column : (p : LinearProgram) (i j : ℕ) → j < p.columns → equation p i j ≡ sign_of (p.right i) *ℤ p.entry i j
unfolding equation
equation-column p i j l = choose-below j p.columns _ _ l

-- an equation's number at the artificial unknown of its own row
pub equation-artificial : (p : LinearProgram) (i : ℕ) → i < p.rows → equation p i (artificial p i) ≡ pos 1
unfolding equation
equation-artificial p i l =
    choose-above (artificial p i) p.columns _ _ (omega arith)
    ∙ (choose-below (artificial p i) (unknowns p) _ _ (omega arith) ∙ choose-same (artificial p i) (artificial p i) _ _ refl)

-- an equation's number at the artificial unknown of another row
pub equation-other_artificial : (p : LinearProgram) (i k : ℕ) → k < p.rows → i ≢ k → equation p i (artificial p k) ≡ pos 0
unfolding equation
equation-other_artificial p i k l d =
    choose-above (artificial p k) p.columns _ _ (omega arith)
    ∙ (choose-below (artificial p k) (unknowns p) _ _ (omega arith) ∙ choose-other (artificial p k) (artificial p i) _ _ (omega arith))

-- an equation's right side
pub equation-right : (p : LinearProgram) (i : ℕ) → equation p i (unknowns p) ≡ sign_of (p.right i) *ℤ p.right i
unfolding equation
equation-right p i =
    choose-above (unknowns p) p.columns _ _ (omega arith) ∙ choose-above (unknowns p) (unknowns p) _ _ (omega arith)

-- a right side times its sign is at least 0
pub sign_of-right : (b : ℤ) → pos 0 ≤ℤ (sign_of b *ℤ b)
sign_of-right b = go (int_lt b (pos 0)) refl
  where
    go : (v : Bool) → int_lt b (pos 0) ≡ v → pos 0 ≤ℤ (sign_of b *ℤ b)
    go true e = subst (λ (v : Bool). pos 0 ≤ℤ ((if v then negsuc 0 else pos 1) *ℤ b)) (sym e) (omega (arith, ints))
    go false e = subst (λ (v : Bool). pos 0 ≤ℤ ((if v then negsuc 0 else pos 1) *ℤ b)) (sym e) (omega (arith, ints))

-- a sign times itself is 1
pub sign_of-square : (b : ℤ) → sign_of b *ℤ sign_of b ≡ pos 1
sign_of-square b = go (int_lt b (pos 0))
  where
    go : (v : Bool) → (if v then negsuc 0 else pos 1) *ℤ (if v then negsuc 0 else pos 1) ≡ pos 1
    go true = refl
    go false = refl

-- cost number 0 of the program's columns is 0
pub cost-none : (p : LinearProgram) (j : ℕ) → j < p.columns → cost p 0 j ≡ pos 0
unfolding cost
cost-none p j l = choose-below j p.columns _ _ l

-- the first costs
pub cost-first : (p : LinearProgram) (j : ℕ) → j < p.columns → cost p 1 j ≡ p.first j
unfolding cost
cost-first p j l = choose-below j p.columns _ _ l

-- the second costs
pub cost-second : (p : LinearProgram) (k j : ℕ) → j < p.columns → cost p (suc (suc k)) j ≡ p.second j
unfolding cost
cost-second p k j l = choose-below j p.columns _ _ l

-- cost number 0 counts the artificial unknowns
pub cost-artificial : (p : LinearProgram) (j : ℕ) → p.columns ≤ j → cost p 0 j ≡ pos 1
unfolding cost
cost-artificial p j l = choose-above j p.columns _ _ l

-- the first and second costs of an artificial unknown are 0
pub cost-no_artificial : (p : LinearProgram) (k j : ℕ) → p.columns ≤ j → cost p (suc k) j ≡ pos 0
unfolding cost
cost-no_artificial p zero j l = choose-above j p.columns _ _ l
cost-no_artificial p (suc k) j l = choose-above j p.columns _ _ l

-- the first tableau's rows are the equations
pub first-row : (p : LinearProgram) (i j : ℕ) → i < p.rows → (first_tableau p).entry i j ≡ equation p i j
unfolding first_tableau
first-row p i j l = choose-below i p.rows _ _ l

-- the first tableau's cost rows are the first reduced costs
pub first-cost : (p : LinearProgram) (k j : ℕ) → (first_tableau p).entry (cost_row p k) j ≡ first_reduced_cost p k j
unfolding first_tableau
first-cost p k j = choose-above (cost_row p k) p.rows _ _ (omega arith) ∙ ap (λ (l : ℕ). first_reduced_cost p l j) (omega arith)

-- the pivot row's entries are unchanged by the pivot
pub pivot-row : (t : Tableau) (r c j : ℕ) → (pivot t r c).entry r j ≡ t.entry r j
unfolding pivot
pivot-row t r c j = choose-same r r _ _ refl

-- another row after the pivot
pub pivot-other : (t : Tableau) (r c i j : ℕ) → i ≢ r → (pivot t r c).entry i j ≡ t.entry i j *ℤ t.entry r c -ℤ t.entry i c *ℤ t.entry r j
unfolding pivot
pivot-other t r c i j d = choose-other i r _ _ d

-- the pivot row's scale is its entry in the entering column
pub pivot-scale : (t : Tableau) (r c : ℕ) → (pivot t r c).scale r ≡ t.entry r c
unfolding pivot
pivot-scale t r c = choose-same r r _ _ refl

-- another row's scale after the pivot
pub pivot-other_scale : (t : Tableau) (r c i : ℕ) → i ≢ r → (pivot t r c).scale i ≡ t.scale i *ℤ t.entry r c
unfolding pivot
pivot-other_scale t r c i d = choose-other i r _ _ d

-- the pivot row is solved for the entering unknown
pub pivot-basis : (t : Tableau) (r c : ℕ) → (pivot t r c).basis r ≡ c
unfolding pivot
pivot-basis t r c = ap (λ (v : Bool). if v then c else t.basis r) (eq-eqb r r refl)

-- the other rows are solved for the same unknowns as before
pub pivot-other_basis : (t : Tableau) (r c i : ℕ) → i ≢ r → (pivot t r c).basis i ≡ t.basis i
unfolding pivot
pivot-other_basis t r c i d = ap (λ (v : Bool). if v then c else t.basis i) (ne_eqb i r d)
