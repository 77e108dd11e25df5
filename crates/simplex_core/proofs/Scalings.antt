-- Least common denominators, and fractions over a common denominator.
use Rattle.std.proofs.Common.{◌≡◌, ℕ, zero, suc, ◌+◌, ◌*◌, ◌/◌, ◌<◌, ◌≤◌, ap, arith, refl, sym, ◌∙◌, subst, ◌⊎◌, inl}
use Rattle.std.proofs.Common.{inr, List, [], ◌∷◌, ◌++◌, length, Some}
use Rattle.std.specs.Prelude.{ℤ, pos, negsuc, ◌*ℤ◌, ◌<ℤ◌, unsigned_abs, slice_get}
use Rattle.std.specs.Int.{◌∣◌}
use Rattle.std.proofs.lemmas.Int.{ints, unsigned_abs-mul}
use Rattle.std.proofs.lemmas.List.{get_or_append_left}
use Rattle.std.proofs.Math.Nat.{one-dvd, dvd-mul_right, dvd-mul_left, dvd_trans, pos_of_dvd_of_pos, div-mul_cancel}
use Rattle.std.proofs.Math.Nat.{div-mul-le_self, lt-div-mul-add, lt_of_mul-lt-mul_right, mul-le-mul_right}
use Rattle.std.proofs.Math.Nat.{mul-le-mul_left}
use Rattle.frac128.specs.declared.frac.Frac.{Frac}
use Rattle.frac128.proofs.Uniqueness.{divides_other}
use Rattle.int_laws.proofs.RingLaws.{mul_assoc_ℤ}
use Rattle.int_laws.specs.Divisors.{IsLeastCommonMultiple, HasNoneWithin}
use Rattle.linear_forms.specs.Forms.{at}
use Rattle.simplex_core.specs.Scaling.{IsCommon, IsLeastCommon, HasNoCommonWithin, AreOver, AreWithin, IsNumberOver}
use Rattle.simplex_core.proofs.Searches.{last_or_before}

-- the least common denominator of no fractions is 1
pub least-of_none : (fs : List Frac) → IsLeastCommon fs 0 1
least-of_none fs = record {
  positive = omega arith;
  common = record { each = λ j f l e. absurd (omega arith) };
  least = λ k h. one-dvd k;
}

-- a common denominator of fractions is one of fewer of them
common-fewer : (fs : List Frac) (m n : ℕ) → IsCommon fs (m + 1) n → IsCommon fs m n
common-fewer fs m n h = record { each = λ j f l e. h.each j f (omega arith) e }

-- the least common denominator with one more fraction is the least common multiple with its denominator
pub least-more : (fs : List Frac) (m n k : ℕ) (f : Frac) → slice_get fs m ≡ Some f → IsLeastCommon fs m n → IsLeastCommonMultiple n (unsigned_abs f.den) k → IsLeastCommon fs (m + 1) k
least-more fs m n k f is h multiple = record {
  positive = pos_of_dvd_of_pos (multiple.least (n * unsigned_abs f.den) (dvd-mul_right n (unsigned_abs f.den)) (dvd-mul_left (unsigned_abs f.den) n)) product;
  common = record { each = λ j g l e. go j g (last_or_before m j (omega arith)) e };
  least = λ i c. multiple.least i (h.least i (common-fewer fs m i c)) (c.each m f (omega arith) is);
}
  where
    den : 0 < unsigned_abs f.den
    den = let p = f.positive in omega (arith, ints, p)

    product : 0 < n * unsigned_abs f.den
    product = let a = h.positive in let b = den in let k' = mul-le-mul_right (unsigned_abs f.den) a in omega (arith, a, b, k')

    go : (j : ℕ) (g : Frac) → (j ≡ m) ⊎ (j < m) → slice_get fs j ≡ Some g → unsigned_abs g.den ∣ k
    go j g (inl e) i =
        let there = ap (λ (x : ℕ). slice_get fs x) (sym e) ∙ i in
        let same : f ≡ g = cc in
        subst (λ (x : Frac). unsigned_abs x.den ∣ k) same multiple.second
    go j g (inr l) i = dvd_trans (unsigned_abs g.den) (h.common.each j g l i) multiple.first

-- if the least common multiple with one more denominator is over the limit, so is each common denominator of all
pub none-more : (fs : List Frac) (m n limit : ℕ) (f : Frac) → m < length fs → slice_get fs m ≡ Some f → IsLeastCommon fs m n → HasNoneWithin n (unsigned_abs f.den) limit
    → HasNoCommonWithin fs (length fs) limit
none-more fs m n limit f l is h none = record {
  each = λ k positive c. none.each k positive (h.least k (record { each = λ j g i e. c.each j g (omega arith) e })) (c.each m f l is);
}

-- a multiple of a denominator is the quotient times the denominator
pub times-of : (f : Frac) (den : ℕ) → unsigned_abs f.den ∣ den → (den / unsigned_abs f.den) * unsigned_abs f.den ≡ den
times-of f den h = div-mul_cancel (unsigned_abs f.den) h

-- a multiple above 0 of a denominator contains it at least once
pub times-positive : (f : Frac) (den : ℕ) → 0 < den → unsigned_abs f.den ∣ den → 0 < den / unsigned_abs f.den
times-positive f den positive h = over (den / unsigned_abs f.den) (unsigned_abs f.den) (times-of f den h)
  where
    over : (t d : ℕ) → t * d ≡ den → 0 < t
    over zero d e = absurd (omega (arith, e))
    over (suc t) d e = omega arith

-- the number of a fraction over a multiple is over the limit if its numerator is over the limit divided by the quotient
pub number-passes : (f : Frac) (den limit : ℕ) → 0 < den → unsigned_abs f.den ∣ den → limit / (den / unsigned_abs f.den) < unsigned_abs f.num → IsNumberOver f den limit
number-passes f den limit positive h l =
    record { passes = passes (den / unsigned_abs f.den) (unsigned_abs f.den) (unsigned_abs f.num) (times-of f den h) over l }
  where
    over : 0 < unsigned_abs f.den
    over = let p = f.positive in omega (arith, ints, p)

    times_over : (t d : ℕ) → t * d ≡ den → 0 < t
    times_over zero d e = absurd (omega (arith, e))
    times_over (suc t) d e = omega arith

    passes : (t d n : ℕ) → t * d ≡ den → 0 < d → limit / t < n → limit * d < n * den
    passes t d n e o l =
        let more : limit < limit / t * t + t = lt-div-mul-add (times_over t d e) in
        let step = mul-le-mul_right {m = limit / t + 1} {n = n} t (omega arith) in
        let above : limit < n * t = omega (arith, more, step) in
        let scaled = mul-le-mul_right {m = limit + 1} {n = n * t} d (omega arith) in
        let whole : n * den ≡ n * t * d = ap (λ (x : ℕ). n * x) (sym e) ∙ assoc n t d in
        omega (arith, scaled, whole, o)
      where
        assoc : (n t d : ℕ) → n * (t * d) ≡ n * t * d
        assoc n t d = omega arith

-- the number of a fraction over a multiple is within the limit if its numerator is within the limit divided by the
-- quotient
pub number-within : (f : Frac) (den limit : ℕ) → unsigned_abs f.num ≤ limit / (den / unsigned_abs f.den) → unsigned_abs f.num * (den / unsigned_abs f.den) ≤ limit
number-within f den limit l = within (den / unsigned_abs f.den) (unsigned_abs f.num) l
  where
    within : (t n : ℕ) → n ≤ limit / t → n * t ≤ limit
    within t n l = let a = mul-le-mul_right t l in let b = div-mul-le_self limit t in omega (arith, a, b)

-- the number over the multiple is the fraction
pub number-is : (f : Frac) (den : ℕ) (n : ℤ) → unsigned_abs f.den ∣ den → n ≡ f.num *ℤ pos (den / unsigned_abs f.den) → n *ℤ f.den ≡ f.num *ℤ pos den
number-is f den n h e =
    ap (λ (z : ℤ). z *ℤ f.den) e ∙ (mul_assoc_ℤ f.num (pos (den / unsigned_abs f.den)) f.den ∙ ap (λ (z : ℤ). f.num *ℤ z) (product (den / unsigned_abs f.den) f.den f.positive (times-of f den h)))
  where
    product : (t : ℕ) (d : ℤ) → pos 0 <ℤ d → t * unsigned_abs d ≡ den → pos t *ℤ d ≡ pos den
    product t (pos d) l e = ap pos e
    product t (negsuc d) l e = absurd (omega (arith, ints, l))

-- the number that was appended is the last one
at-last : (numbers : List ℤ) (n : ℤ) (j : ℕ) → j ≡ length numbers → at (numbers ++ n ∷ []) j ≡ n
at-last [] n zero e = refl
at-last [] n (suc j) e = absurd (omega arith)
at-last (m ∷ numbers) n zero e = absurd (omega arith)
at-last (m ∷ numbers) n (suc j) e = at-last numbers n j (omega arith)

-- after one more number, the integers are one more fraction
pub over-more : (fs : List Frac) (m : ℕ) (numbers : List ℤ) (den : ℕ) (f : Frac) (n : ℤ) → slice_get fs m ≡ Some f → length numbers ≡ m → AreOver fs m numbers den
    → n *ℤ f.den ≡ f.num *ℤ pos den → AreOver fs (m + 1) (numbers ++ n ∷ []) den
over-more fs m numbers den f n is long h e = record {
  positive = h.positive;
  each = λ j g l i. go j g (last_or_before m j (omega arith)) i;
}
  where
    go : (j : ℕ) (g : Frac) → (j ≡ m) ⊎ (j < m) → slice_get fs j ≡ Some g → at (numbers ++ n ∷ []) j *ℤ g.den ≡ g.num *ℤ pos den
    go j g (inl s) i =
        let there = ap (λ (x : ℕ). slice_get fs x) (sym s) ∙ i in
        let same : f ≡ g = cc in
        ap (λ (z : ℤ). z *ℤ g.den) (at-last numbers n j (s ∙ sym long)) ∙ subst (λ (x : Frac). n *ℤ x.den ≡ x.num *ℤ pos den) same e
    go j g (inr l) i = ap (λ (z : ℤ). z *ℤ g.den) (get_or_append_left numbers (n ∷ []) (pos 0) j (omega (arith, l, long))) ∙ h.each j g l i

-- after one more number within the limit, all are within it
pub within-more : (limit m : ℕ) (numbers : List ℤ) (n : ℤ) → length numbers ≡ m → AreWithin limit m numbers → unsigned_abs n ≤ limit → AreWithin limit (m + 1) (numbers ++ n ∷ [])
within-more limit m numbers n long h l = record { each = λ j k. go j (last_or_before m j (omega arith)) }
  where
    go : (j : ℕ) → (j ≡ m) ⊎ (j < m) → unsigned_abs (at (numbers ++ n ∷ []) j) ≤ limit
    go j (inl s) = subst (λ (z : ℤ). unsigned_abs z ≤ limit) (sym (at-last numbers n j (s ∙ sym long))) l
    go j (inr k) = subst (λ (z : ℤ). unsigned_abs z ≤ limit) (sym (get_or_append_left numbers (n ∷ []) (pos 0) j (omega (arith, k, long)))) (h.each j k)

-- if integers over a denominator are the fractions, the denominator is a common one
pub over-common : (fs : List Frac) (m : ℕ) (numbers : List ℤ) (den : ℕ) → AreOver fs m numbers den → IsCommon fs m den
over-common fs m numbers den h = record { each = λ j f l i. divides_other f.num f.den (at numbers j) (pos den) f.lowest (sym (h.each j f l i)) }

-- if a number is over the limit over one denominator, it is over each greater one, too
pub passes-above : (f : Frac) (den other limit : ℕ) (n : ℤ) → IsNumberOver f den limit → den ≤ other → n *ℤ f.den ≡ f.num *ℤ pos other → limit < unsigned_abs n
passes-above f den other limit n h l e = above (unsigned_abs f.den) (unsigned_abs f.num) (unsigned_abs n) h.passes sizes
  where
    sizes : unsigned_abs n * unsigned_abs f.den ≡ unsigned_abs f.num * other
    sizes = sym (unsigned_abs-mul n f.den) ∙ (ap unsigned_abs e ∙ unsigned_abs-mul f.num (pos other))

    above : (d a b : ℕ) → limit * d < a * den → b * d ≡ a * other → limit < b
    above d a b p s = let k = mul-le-mul_left a l in lt_of_mul-lt-mul_right d (omega (arith, p, s, k))
