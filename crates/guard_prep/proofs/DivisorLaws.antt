-- The greatest common divisor of coefficients.
use Rattle.std.proofs.Common.{◌≡◌, ℕ, zero, suc, ◌+◌, ◌%◌, ◌<◌, ◌≤◌, ◌⊎◌, inl, inr, List, [], ◌∷◌, ◌++◌, length, get_or}
use Rattle.std.proofs.Common.{Bool, true, false, ◌&&◌, nat_eq, refl, ap, sym, ◌∙◌, subst, arith, if◌then◌else◌}
use Rattle.std.specs.Prelude.{ℤ, nat_abs}
use Rattle.std.specs.Int.{IsGcd, ◌∣◌}
use Rattle.std.specs.List.{AllByRecursion}
use Rattle.std.proofs.lemmas.Bool.{cases_eq}
use Rattle.std.proofs.lemmas.Bool.Decides.{nat_tests}
use Rattle.std.proofs.lemmas.Nat.Gcd.{dvd-zero, dvd_trans, le_of_dvd, dvd_of_mod-eq-zero, mod-eq-zero_of_dvd}
use Rattle.std.proofs.Math.Nat.{pos_of_dvd_of_pos}
use Rattle.poly_terms.specs.linear_forms.Sizes.{total_size}
use Rattle.guard_prep.specs.Tightening.{divides_all, divisor_upto, divisor_of}

-- a number divides each coefficient
abbrev pub DividesEach : ℕ → List ℤ → Type 0
DividesEach d [] = Unit {0}
DividesEach d (a ∷ coefs) = (d ∣ nat_abs a) × DividesEach d coefs

-- g divides each coefficient, and each number that does divides g
pub record IsDivisorOf (g : ℕ) (coefs : List ℤ) : Type 0 where
  pub divides : DividesEach g coefs
  pub greatest : (d : ℕ) → DividesEach d coefs → d ∣ g

-- a divisor of a common divisor divides each coefficient
divides-less : (d g : ℕ) (coefs : List ℤ) → d ∣ g → DividesEach g coefs → DividesEach d coefs
divides-less d g [] h k = tt
divides-less d g (a ∷ coefs) h k = (dvd_trans d h k.0, divides-less d g coefs h k.1)

divides-append : (d : ℕ) (xs ys : List ℤ) → DividesEach d xs → DividesEach d ys → DividesEach d (xs ++ ys)
divides-append d [] ys h k = k
divides-append d (x ∷ xs) ys h k = (h.0, divides-append d xs ys h.1 k)

divides-front : (d : ℕ) (xs ys : List ℤ) → DividesEach d (xs ++ ys) → DividesEach d xs × DividesEach d ys
divides-front d [] ys h = (tt, h)
divides-front d (x ∷ xs) ys h = let k = divides-front d xs ys h.1 in ((h.0, k.0), k.1)

-- the greatest common divisor of no coefficients is 0
pub divisor-none : IsDivisorOf 0 []
divisor-none = record { divides = tt; greatest = λ d h. dvd-zero d }

-- the greatest common divisor with one more coefficient
pub divisor-more : (g h : ℕ) (xs : List ℤ) (a : ℤ) → IsDivisorOf g xs → IsGcd g (nat_abs a) h → IsDivisorOf h (xs ++ a ∷ [])
divisor-more g h xs a d e = record {
  divides = divides-append h xs (a ∷ []) (divides-less h g xs e.0 d.divides) (e.1, tt);
  greatest = λ k l. let two = divides-front k xs (a ∷ []) l in e.2 k (d.greatest k two.0) two.1.0;
}

-- if the test is true and the number isn't 0, it divides each coefficient
each-from_test : (d : ℕ) (coefs : List ℤ) → divides_all d coefs ≡ true → DividesEach d coefs
each-from_test d [] h = tt
each-from_test d (a ∷ coefs) h = go (nat_eq (nat_abs a % d) 0) refl h (each-from_test d coefs)
  where
    zero_rest : nat_eq (nat_abs a % d) 0 ≡ true → nat_abs a % d ≡ 0
    zero_rest e = grind (arith, nat_tests)

    go : (b : Bool) → nat_eq (nat_abs a % d) 0 ≡ b → (b && divides_all d coefs) ≡ true → (divides_all d coefs ≡ true → DividesEach d coefs) → DividesEach d (a ∷ coefs)
    go true e k ih = (dvd_of_mod-eq-zero d (zero_rest e), ih k)
    go false e k ih = cc

test-from_each : (d : ℕ) (coefs : List ℤ) → DividesEach d coefs → divides_all d coefs ≡ true
test-from_each d [] h = refl
test-from_each d (a ∷ coefs) h = ap (λ (b : Bool). b && divides_all d coefs) (rest (mod-eq-zero_of_dvd d h.0)) ∙ test-from_each d coefs h.1
  where
    rest : nat_abs a % d ≡ 0 → nat_eq (nat_abs a % d) 0 ≡ true
    rest e = grind (arith, nat_tests)

-- the divisor found divides each coefficient
upto-divides : (n : ℕ) (coefs : List ℤ) → 0 < divisor_upto n coefs → DividesEach (divisor_upto n coefs) coefs
upto-divides zero coefs h = absurd (omega arith)
upto-divides (suc n) coefs h = go (divides_all (suc n) coefs) refl h (upto-divides n coefs)
  where
    go : (b : Bool) → divides_all (suc n) coefs ≡ b → 0 < (if b then suc n else divisor_upto n coefs)
        → (0 < divisor_upto n coefs → DividesEach (divisor_upto n coefs) coefs) → DividesEach (if b then suc n else divisor_upto n coefs) coefs
    go true e k ih = each-from_test (suc n) coefs e
    go false e k ih = ih k

-- the greatest divisor within the limit is found
upto-is : (n g : ℕ) (coefs : List ℤ) → 0 < g → g ≤ n → DividesEach g coefs → ((d : ℕ) → DividesEach d coefs → d ≤ g) → divisor_upto n coefs ≡ g
upto-is zero g coefs p l h m = absurd (omega arith)
upto-is (suc n) g coefs p l h m = go (divides_all (suc n) coefs) refl (λ k. upto-is n g coefs p k h m)
  where
    other : divides_all (suc n) coefs ≡ false → g ≤ n
    other e = split (cases_eq g (suc n))
      where
        split : (g ≡ suc n) ⊎ (g ≡ suc n → ⊥) → g ≤ n
        split (inl s) = absurd (clash (ap (λ (k : ℕ). divides_all k coefs) (sym s) ∙ test-from_each g coefs h) e)
          where
            clash : divides_all (suc n) coefs ≡ true → divides_all (suc n) coefs ≡ false → ⊥
            clash x y = cc
        split (inr s) = omega (arith, l, s)

    go : (b : Bool) → divides_all (suc n) coefs ≡ b → (g ≤ n → divisor_upto n coefs ≡ g) → (if b then suc n else divisor_upto n coefs) ≡ g
    go true e ih = let k = m (suc n) (each-from_test (suc n) coefs e) in omega (arith, k, l)
    go false e ih = ih (other e)

-- if the sum of the absolute values is 0, each number divides each coefficient; else some coefficient isn't 0
zero-divides : (d : ℕ) (coefs : List ℤ) → total_size coefs ≡ 0 → DividesEach d coefs
zero-divides d [] e = tt
zero-divides d (a ∷ coefs) e =
    (subst (λ (n : ℕ). d ∣ n) (let z : 0 ≡ nat_abs a = omega (arith, e) in z) (dvd-zero d), zero-divides d coefs (omega (arith, e)))

-- a common divisor is at least 1 and at most the sum of the absolute values, if that isn't 0
divisor-bounds : (g : ℕ) (coefs : List ℤ) → 0 < total_size coefs → DividesEach g coefs → (0 < g) × (g ≤ total_size coefs)
divisor-bounds g [] l h = absurd (omega arith)
divisor-bounds g (a ∷ coefs) l h = split (cases_eq (nat_abs a) 0) (divisor-bounds g coefs)
  where
    split : (nat_abs a ≡ 0) ⊎ (nat_abs a ≡ 0 → ⊥) → (0 < total_size coefs → DividesEach g coefs → (0 < g) × (g ≤ total_size coefs))
        → (0 < g) × (g ≤ nat_abs a + total_size coefs)
    split (inl e) ih = let k = ih (omega (arith, e, l)) h.1 in (k.0, omega (arith, k.1))
    split (inr e) ih =
        let p : 0 < nat_abs a = omega (arith, e) in
        let b = le_of_dvd p h.0 in
        (pos_of_dvd_of_pos h.0 p, omega (arith, b))

-- a common divisor is at most a bound on the coefficients, if one of them isn't 0
pub divisor-small : (g n : ℕ) (coefs : List ℤ) → AllByRecursion (λ a. nat_abs a ≤ n) coefs → 0 < total_size coefs → DividesEach g coefs → g ≤ n
divisor-small g n [] b l h = absurd (omega arith)
divisor-small g n (a ∷ coefs) b l h = split (cases_eq (nat_abs a) 0) (divisor-small g n coefs b.1)
  where
    split : (nat_abs a ≡ 0) ⊎ (nat_abs a ≡ 0 → ⊥) → (0 < total_size coefs → DividesEach g coefs → g ≤ n) → g ≤ n
    split (inl e) ih = ih (omega (arith, e, l)) h.1
    split (inr e) ih = let c = le_of_dvd (let p : 0 < nat_abs a = omega (arith, e) in p) h.0 in omega (arith, c, b.0)

-- a common divisor that each common divisor divides is the greatest one
pub divisor-is : (g : ℕ) (coefs : List ℤ) → IsDivisorOf g coefs → divisor_of coefs ≡ g
unfolding divisor_of
divisor-is g coefs h = split (cases_eq (total_size coefs) 0)
  where
    split : (total_size coefs ≡ 0) ⊎ (total_size coefs ≡ 0 → ⊥) → divisor_upto (total_size coefs) coefs ≡ g
    split (inl e) = ap (λ (n : ℕ). divisor_upto n coefs) e ∙ none (h.greatest 0 (zero-divides 0 coefs e))
      where
        none : 0 ∣ g → 0 ≡ g
        none d = go (cases_eq g 0)
          where
            go : (g ≡ 0) ⊎ (g ≡ 0 → ⊥) → 0 ≡ g
            go (inl f) = sym f
            go (inr f) = absurd (let q = pos_of_dvd_of_pos d (let r : 0 < g = omega (arith, f) in r) in omega (arith, q))
    split (inr e) =
        let p : 0 < total_size coefs = omega (arith, e) in
        let b = divisor-bounds g coefs p h.divides in
        upto-is (total_size coefs) g coefs b.0 b.1 h.divides (λ d k. le_of_dvd b.0 (h.greatest d k))

-- if the sum of the absolute values is 0, the greatest common divisor is 0
divisor-of-zeros : (coefs : List ℤ) → total_size coefs ≡ 0 → divisor_of coefs ≡ 0
unfolding divisor_of
divisor-of-zeros coefs e = ap (λ (n : ℕ). divisor_upto n coefs) e

-- the greatest common divisor divides each coefficient, if it isn't 0
pub divisor-divides : (coefs : List ℤ) → 0 < divisor_of coefs → DividesEach (divisor_of coefs) coefs
unfolding divisor_of
divisor-divides coefs h = upto-divides (total_size coefs) coefs h

-- the greatest common divisor is 0 only if all coefficients are 0
pub divisor-zero : (coefs : List ℤ) → divisor_of coefs ≡ 0 → total_size coefs ≡ 0
unfolding divisor_of
divisor-zero coefs h = split (cases_eq (total_size coefs) 0)
  where
    one_divides : (cs : List ℤ) → DividesEach 1 cs
    one_divides [] = tt
    one_divides (a ∷ cs) = (dvd_of_mod-eq-zero 1 (let e : nat_abs a % 1 ≡ 0 = omega arith in e), one_divides cs)

    found : (n : ℕ) → 0 < n → 0 < divisor_upto n coefs
    found zero l = absurd (omega arith)
    found (suc zero) l = ap_lt (ap (λ (b : Bool). if b then 1 else divisor_upto 0 coefs) (test-from_each 1 coefs (one_divides coefs)))
      where
        ap_lt : {x : ℕ} → x ≡ 1 → 0 < x
        ap_lt e = omega (arith, e)
    found (suc (suc n)) l = go (divides_all (suc (suc n)) coefs) (found (suc n) (omega arith))
      where
        go : (b : Bool) → 0 < divisor_upto (suc n) coefs → 0 < (if b then suc (suc n) else divisor_upto (suc n) coefs)
        go true ih = omega arith
        go false ih = ih

    split : (total_size coefs ≡ 0) ⊎ (total_size coefs ≡ 0 → ⊥) → total_size coefs ≡ 0
    split (inl e) = e
    split (inr e) = absurd (let p = found (total_size coefs) (omega (arith, e)) in omega (arith, p, h))

-- the divisor of coefficients that are all 0 is 0
pub divisor-none-left : (coefs : List ℤ) (g : ℕ) → total_size coefs ≡ 0 → IsDivisorOf g coefs → g ≡ 0
divisor-none-left coefs g e h = sym (divisor-is g coefs h) ∙ divisor-of-zeros coefs e

-- a property of each coefficient holds of the one at i
pub all-at : (P : ℤ → Type 0) (xs : List ℤ) (i : ℕ) (d : ℤ) → AllByRecursion P xs → i < length xs → P (get_or xs i d)
all-at P [] i d h l = absurd (omega arith)
all-at P (x ∷ xs) zero d h l = h.0
all-at P (x ∷ xs) (suc i) d h l = all-at P xs i d h.1 (omega arith)
