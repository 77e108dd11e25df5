-- The answer in integers: what is scaled, and when scaling fails.
use Rattle.std.proofs.Common.{◌≡◌, ℕ, zero, suc, ◌+◌, ◌-◌, ◌*◌, ◌<◌, ◌≤◌, ◌^◌, ap, arith, refl, sym, ◌∙◌, subst, ◌⊎◌}
use Rattle.std.proofs.Common.{inl, inr, List, [], ◌∷◌, length, Some, Bool, true, false}
use Rattle.std.specs.Prelude.{ℤ, pos, negsuc, ◌-ℤ◌, ◌*ℤ◌, ◌<ℤ◌, unsigned_abs, slice_get, int_lt, if◌then◌else◌}
use Rattle.std.specs.Int.{◌∣◌}
use Rattle.std.proofs.lemmas.Int.{ints, unsigned_abs-mul}
use Rattle.std.proofs.lemmas.Bool.{cases_lt}
use Rattle.std.proofs.lemmas.Option.{slice_get_within}
use Rattle.std.proofs.Math.Nat.{le_of_dvd, dvd-add, dvd-sub, dvd_refl, mul-le-mul_right}
use Rattle.frac128.specs.declared.frac.Frac.{Frac}
use Rattle.frac128.specs.Lowest.{IsLowest}
use Rattle.frac128.proofs.LowestTerms.{zero_is_whole}
use Rattle.int_laws.specs.Polynomial.{variable, constant, ◌⊖◌, ◌⊗◌, negated}
use Rattle.int_laws.proofs.Identities.{identity, identity_by_two}
use Rattle.int_laws.proofs.OrderLaws.{mul-cancel_ℤ}
use Rattle.linear_forms.specs.Limits.{certificate_limit, point_limit}
use Rattle.linear_forms.specs.Forms.{at}
use Rattle.linear_forms.specs.LinearProgram.{LinearProgram}
use Rattle.linear_forms.specs.ProgramLaws.{AreSame}
use Rattle.linear_forms.proofs.ProgramLaws.{scaled-solution, scaled-least, scaled-dual}
use Rattle.simplex_core.specs.Problem.{table_size, widest}
use Rattle.simplex_core.specs.Positions.{InTable}
use Rattle.simplex_core.specs.Tableau.{artificial, cost_row, sign_of}
use Rattle.simplex_core.specs.Outcome.{HoldsPoint, EndsOptimally, EndsInfeasibly}
use Rattle.simplex_core.specs.Scaling.{IsLeastCommon, HasNoCommonWithin, AreOver, AreWithin, AreScaled, HasNumberOver}
use Rattle.simplex_core.specs.Scaling.{HasNoneScaled, ExceedsSolution, ExceedsDual}
use Rattle.simplex_core.specs.HitsLimit.{IsScaledSolution, IsScaledDual}
use Rattle.simplex_core.proofs.Regions.{sign_of-square}
use Rattle.simplex_core.proofs.Positions.{slice_get-there}
use Rattle.simplex_core.proofs.Scalings.{over-common, passes-above}

-- integers that are the fractions over a denominator give the point that the fractions hold
same-point : (n : ℕ) (fs : List Frac) (x : ℕ → ℤ) (d : ℤ) (numbers : List ℤ) (den : ℕ) → pos 0 <ℤ d → HoldsPoint n fs x d → AreOver fs (length fs) numbers den
    → AreSame n x d (at numbers) (pos den)
same-point n fs x d numbers den positive holds over = record {
  denominator = positive;
  other = let l = over.positive in omega (arith, ints, l);
  each = λ j l.
      let found = slice_get-there fs j (let e = holds.length_is in omega (arith, l, e)) in
      let f = found.0 in
      crossed f.num f.den (x j) (at numbers j) f.positive (holds.each j f found.1) (over.each j f (let e = holds.length_is in omega (arith, l, e)) found.1);
}
  where
    crossed : (a b v w : ℤ) → pos 0 <ℤ b → a *ℤ d ≡ v *ℤ b → w *ℤ b ≡ a *ℤ pos den → v *ℤ pos den ≡ w *ℤ d
    crossed a b v w l e f = mul-cancel_ℤ b (v *ℤ pos den) (w *ℤ d) l
        (identity (b ∷ v ∷ pos den ∷ []) (variable 0 ⊗ (variable 1 ⊗ variable 2)) ((variable 1 ⊗ variable 0) ⊗ variable 2) refl
        ∙ (ap (λ (z : ℤ). z *ℤ pos den) (sym e)
        ∙ (identity (a ∷ d ∷ pos den ∷ []) ((variable 0 ⊗ variable 1) ⊗ variable 2) (variable 1 ⊗ (variable 0 ⊗ variable 2)) refl
        ∙ (ap (λ (z : ℤ). d *ℤ z) (sym f) ∙ identity (d ∷ w ∷ b ∷ []) (variable 0 ⊗ (variable 1 ⊗ variable 2)) (variable 2 ⊗ (variable 1 ⊗ variable 0)) refl))))

-- a solution that is scaled within the limits is the answer in integers
pub solution-given : (p : LinearProgram) (allowed k : ℕ) (fs : List Frac) (basis : List ℕ) (numbers : List ℤ) (den : ℕ) → table_size p ≤ widest → EndsOptimally p allowed fs basis k
    → AreScaled fs numbers den → AreWithin certificate_limit (length numbers) numbers → den ≤ certificate_limit → IsScaledSolution p allowed numbers den
solution-given p allowed k fs basis numbers den fits ends scaled within den_within = record {
  fits = fits;
  point = fs;
  basis = basis;
  k = k;
  ends = ends;
  scaled = scaled;
  within = within;
  den_within = den_within;
  columns = scaled.lengths ∙ ends.holds.length_is;
  solution = scaled-solution p ends.x ends.d (at numbers) (pos den) same ends.solution;
  least = scaled-least p ends.x ends.d (at numbers) (pos den) same ends.least;
}
  where
    same : AreSame p.columns ends.x ends.d (at numbers) (pos den)
    same = same-point p.columns fs ends.x ends.d numbers den ends.solution.denominator ends.holds scaled.over

-- a dual that is scaled within the limit is the answer in integers
pub dual-given : (p : LinearProgram) (allowed k : ℕ) (fs : List Frac) (numbers : List ℤ) (den : ℕ) → table_size p ≤ widest → EndsInfeasibly p allowed fs k
    → AreScaled fs numbers den → AreWithin point_limit (length numbers) numbers → IsScaledDual p allowed numbers den
dual-given p allowed k fs numbers den fits ends scaled within = record {
  fits = fits;
  dual = fs;
  k = k;
  ends = ends;
  scaled = scaled;
  within = within;
  rows = scaled.lengths ∙ ends.holds.length_is;
  certified = scaled-dual p ends.y ends.d (at numbers) (pos den) (same-point p.rows fs ends.y ends.d numbers den ends.positive ends.holds scaled.over) ends.certified;
}

-- if some number over the least common denominator is over the limit, some number is over each common denominator
least-exceeds : (fs : List Frac) (den limit : ℕ) → IsLeastCommon fs (length fs) den → HasNumberOver fs den limit
    → (numbers : List ℤ) (other : ℕ) → AreOver fs (length fs) numbers other → ¬ AreWithin limit (length fs) numbers
least-exceeds fs den limit least above numbers other over within =
    clash _ _ (within.each above.position above.within)
    (passes-above above.fraction den other limit (at numbers above.position) above.over
    (le_of_dvd over.positive (least.least other (over-common fs (length fs) numbers other over)))
    (over.each above.position above.fraction above.within above.is))
  where
    clash : (a b : ℕ) → a ≤ b → b < a → ⊥
    clash a b l m = omega arith

-- a solution that can't be scaled within the limits exceeds them over each common denominator
pub solution-exceeds : (fs : List Frac) → HasNoneScaled fs certificate_limit certificate_limit → ExceedsSolution fs
solution-exceeds fs h numbers den over within small = go h.each
  where
    go : HasNoCommonWithin fs (length fs) certificate_limit ⊎ ((least : ℕ) × IsLeastCommon fs (length fs) least × HasNumberOver fs least certificate_limit) → ⊥
    go (inl none) = let l = none.each den over.positive (over-common fs (length fs) numbers den over) in omega arith
    go (inr found) = least-exceeds fs found.0 certificate_limit found.1 found.2 numbers den over within

-- a fraction with a small denominator is 0 if its number over a large one is small
small-number : (f : Frac) (n : ℤ) (den : ℕ) → n *ℤ f.den ≡ f.num *ℤ pos den → unsigned_abs n ≤ point_limit → unsigned_abs f.den < 2 ^ 31 → 2 ^ 76 < den → f.num ≡ pos 0
small-number f n den e small low large = from_size f.num (zero_size (unsigned_abs f.num) sizes)
  where
    sizes : unsigned_abs n * unsigned_abs f.den ≡ unsigned_abs f.num * den
    sizes = sym (unsigned_abs-mul n f.den) ∙ (ap unsigned_abs e ∙ unsigned_abs-mul f.num (pos den))

    bound : (a b : ℕ) → a ≤ point_limit → b < 2 ^ 31 → a * b ≤ 2 ^ 76
    bound a b l m = let k = mul-le-mul_right b l in omega (arith, k, m)

    zero_size : (a : ℕ) → unsigned_abs n * unsigned_abs f.den ≡ a * den → a ≡ 0
    zero_size zero e = refl
    zero_size (suc a) e = let b = bound (unsigned_abs n) (unsigned_abs f.den) small low in absurd (over (a * den) e b)
      where
        over : (x : ℕ) → unsigned_abs n * unsigned_abs f.den ≡ suc a * den → unsigned_abs n * unsigned_abs f.den ≤ 2 ^ 76 → ⊥
        over x e b = omega (arith, e, b, large)

    from_size : (z : ℤ) → unsigned_abs z ≡ 0 → z ≡ pos 0
    from_size z e = omega (arith, ints, e)

-- a dual with small denominators that can't be scaled within the limit exceeds it over each common denominator
pub dual-exceeds : (fs : List Frac) → ((j : ℕ) (f : Frac) → slice_get fs j ≡ Some f → unsigned_abs f.den < 2 ^ 31) → HasNoneScaled fs (2 ^ 76) point_limit → ExceedsDual fs
dual-exceeds fs low h numbers den over within = go h.each
  where
    go : HasNoCommonWithin fs (length fs) (2 ^ 76) ⊎ ((least : ℕ) × IsLeastCommon fs (length fs) least × HasNumberOver fs least point_limit) → ⊥
    go (inr found) = least-exceeds fs found.0 point_limit found.1 found.2 numbers den over within
    go (inl none) =
        let large = none.each den over.positive (over-common fs (length fs) numbers den over) in
        let one = none.each 1 (omega arith) (record {
          each = λ j f l i.
              let num = small-number f (at numbers j) den (over.each j f l i) (within.each j l) (low j f i) large in
              subst (λ (d : ℤ). unsigned_abs d ∣ 1) (sym (zero_is_whole f.num f.den f.lowest f.positive num)) (dvd_refl 1);
        }) in
        omega arith

-- a common divisor of a number and of its difference from another divides the other
divides-difference : (k d : ℕ) (z : ℤ) → k ∣ unsigned_abs (pos d -ℤ z) → k ∣ d → k ∣ unsigned_abs z
divides-difference k d (pos m) h i = go (cases_lt d m)
  where
    go : (d < m) ⊎ (m ≤ d) → k ∣ m
    go (inl l) = subst (λ (n : ℕ). k ∣ n) (whole (unsigned_abs (pos d -ℤ pos m)) (omega (arith, ints, l))) (dvd-add k h i)
      where
        whole : (r : ℕ) → r + d ≡ m → r + d ≡ m
        whole r e = e
    go (inr l) = subst (λ (n : ℕ). k ∣ n) (left (unsigned_abs (pos d -ℤ pos m)) (omega (arith, ints, l))) (dvd-sub k i h)
      where
        left : (r : ℕ) → r + m ≡ d → d - r ≡ m
        left r e = omega (arith, e)
divides-difference k d (negsuc m) h i = subst (λ (n : ℕ). k ∣ n) (left (unsigned_abs (pos d -ℤ negsuc m)) (omega (arith, ints))) (dvd-sub k h i)
  where
    left : (r : ℕ) → r ≡ d + suc m → r - d ≡ suc m
    left r e = omega (arith, e)

-- the denominators of a dual at an end in range are below 2^31: 1 less a number has the number's denominator
pub dual-low : (p : LinearProgram) (allowed k : ℕ) (fs : List Frac) → EndsInfeasibly p allowed fs k → (j : ℕ) (f : Frac) → slice_get fs j ≡ Some f → unsigned_abs f.den < 2 ^ 31
dual-low p allowed k fs ends j f i =
    ((ends.in_range.each (cost_row p 0) (artificial p j) inside).each (f.den -ℤ sign_of (p.right j) *ℤ f.num) f.den f.positive lowest value).1
  where
    within : j < p.rows
    within = let l = slice_get_within fs j f i in let e = ends.read.length_is in omega arith

    inside : InTable p.rows p.columns (cost_row p 0) (artificial p j)
    inside = let l = within in record { row = omega arith; column = omega arith; cost = λ _. omega arith }

    signed : (b : Bool) (n : ℤ) → unsigned_abs ((if b then negsuc 0 else pos 1) *ℤ n) ≡ unsigned_abs n
    signed true n = omega (arith, ints)
    signed false n = omega (arith, ints)

    plain : (d : ℤ) → pos 0 <ℤ d → d ≡ pos (unsigned_abs d)
    plain (pos d) l = refl
    plain (negsuc d) l = absurd (omega (arith, ints, l))

    lowest : IsLowest (f.den -ℤ sign_of (p.right j) *ℤ f.num) f.den
    lowest m a b =
        f.lowest m
        (subst (λ (n : ℕ). m ∣ n) (signed (int_lt (p.right j) (pos 0)) f.num)
        (divides-difference m (unsigned_abs f.den) (sign_of (p.right j) *ℤ f.num)
        (subst (λ (d : ℤ). m ∣ unsigned_abs (d -ℤ sign_of (p.right j) *ℤ f.num)) (plain f.den f.positive) a) b)) b

    value : (f.den -ℤ sign_of (p.right j) *ℤ f.num) *ℤ ends.last.scale (cost_row p 0) ≡ ends.last.entry (cost_row p 0) (artificial p j) *ℤ f.den
    value =
        identity_by_two (f.num ∷ f.den ∷ sign_of (p.right j) ∷ ends.last.scale (cost_row p 0) ∷ ends.last.entry (cost_row p 0) (artificial p j) ∷ [])
        ((variable 1 ⊖ variable 2 ⊗ variable 0) ⊗ variable 3) (variable 4 ⊗ variable 1)
        (negated (variable 2)) (variable 0 ⊗ variable 3) ((variable 2 ⊗ (variable 3 ⊖ variable 4)) ⊗ variable 1)
        (negated ((variable 3 ⊖ variable 4) ⊗ variable 1)) (variable 2 ⊗ variable 2) (constant (pos 1))
        (ends.read.each j f i) (sign_of-square (p.right j)) refl
