-- Dividing a row by a common divisor of its coefficients preserves its integer solutions.
use Rattle.std.proofs.Common.{◌≡◌, ◌≢◌, ℕ, zero, suc, ◌+◌, ◌-◌, ◌*◌, ◌/◌, ◌%◌, ◌<◌, ◌≤◌, List, [], ◌∷◌, ◌++◌, Bool}
use Rattle.std.proofs.Common.{true, false, length, map, take, drop, set, get_or, refl, ap, sym, ◌∙◌, subst, arith}
use Rattle.std.proofs.Common.{if◌then◌else◌}
use Rattle.std.specs.Prelude.{ℤ, pos, negsuc, ◌+ℤ◌, ◌*ℤ◌, neg_ℤ, ◌≤ℤ◌, nat_abs, int_le, int_div, int_rem, ◌↔◌}
use Rattle.std.specs.Int.{int_div_euclid, ◌∣◌}
use Rattle.std.specs.List.{All}
use Rattle.std.proofs.lemmas.Int.{ints, quot-rem}
use Rattle.std.proofs.lemmas.Nat.{div-add-mod'}
use Rattle.std.proofs.lemmas.Nat.Gcd.{mod-eq-zero_of_dvd}
use Rattle.int_laws.proofs.RingLaws.{mul-add_ℤ, mul_assoc_ℤ, mul_comm_ℤ}
use Rattle.int_laws.proofs.OrderLaws.{mul-nonneg_ℤ, mul-le-mul_ℤ}
use Rattle.poly_terms.specs.linear_forms.Forms.{Form, list_dot, form_value}
use Rattle.poly_terms.specs.linear_forms.Sizes.{total_size}
use Rattle.poly_terms.specs.linear_forms.Points.{Meets}
use Rattle.guard_prep.specs.Tightening.{divisor_of, tightened_by, tightened}
use Rattle.guard_prep.specs.Laws.{TighteningKeepsWholeSolutions}
use Rattle.guard_prep.proofs.DivisorLaws.{DividesEach, divisor-divides, divisor-zero}

-- the quotient by a divisor, times the divisor, is the number
exact : (a : ℤ) (g : ℕ) → g ∣ nat_abs a → pos g *ℤ int_div a (pos g) ≡ a
exact a g h = mul_comm_ℤ (pos g) (int_div a (pos g)) ∙ from_sum _ _ a (quot-rem a (pos g)) (rest a h)
  where
    from_sum : (p r a : ℤ) → p +ℤ r ≡ a → r ≡ pos 0 → p ≡ a
    from_sum p r a e f = omega (arith, ints, e, f)

    rest : (a : ℤ) → g ∣ nat_abs a → int_rem a (pos g) ≡ pos 0
    rest (pos a) h = ap pos (mod-eq-zero_of_dvd g h)
    rest (negsuc a) h = ap (λ (n : ℕ). neg_ℤ (pos n)) (mod-eq-zero_of_dvd g h)

-- coefficients times a point are the divisor times (the divided coefficients times the point)
dot-divided : (g : ℕ) (coefs : List ℤ) (z : ℕ → ℤ) → DividesEach g coefs → list_dot coefs z ≡ pos g *ℤ list_dot (map (λ a. int_div a (pos g)) coefs) z
dot-divided g [] z h = nothing (pos g)
  where
    nothing : (x : ℤ) → pos 0 ≡ x *ℤ pos 0
    nothing x = omega (arith, ints)
dot-divided g (a ∷ coefs) z h =
    (λ i. sym (exact a g h.0) i *ℤ z 0 +ℤ dot-divided g coefs (λ k. z (suc k)) h.1 i)
    ∙ regroup (pos g) (int_div a (pos g)) (z 0) (list_dot (map (λ b. int_div b (pos g)) coefs) (λ k. z (suc k)))
  where
    regroup : (x y w r : ℤ) → (x *ℤ y) *ℤ w +ℤ x *ℤ r ≡ x *ℤ (y *ℤ w +ℤ r)
    regroup x y w r = ap (λ (u : ℤ). u +ℤ x *ℤ r) (mul_assoc_ℤ x y w) ∙ sym (mul-add_ℤ x (y *ℤ w) r)

-- a number is the divisor times its quotient rounded down, plus a remainder below the divisor
floor-rest : (c : ℤ) (k : ℕ) → (r : ℕ) × (r ≤ k) × (c ≡ pos (suc k) *ℤ int_div_euclid c (pos (suc k)) +ℤ pos r)
floor-rest (pos a) k = (a % suc k, below, whole)
  where
    below : a % suc k ≤ k
    below = omega arith

    whole : pos a ≡ pos (suc k) *ℤ pos (a / suc k) +ℤ pos (a % suc k)
    whole = up (a / suc k) (a % suc k) a k (div-add-mod' a (suc k))
      where
        up : (q r a k : ℕ) → q * suc k + r ≡ a → pos a ≡ pos (suc k) *ℤ pos q +ℤ pos r
        up q r a k e = omega (arith, ints, e)
floor-rest (negsuc a) k = (k - a % suc k, omega arith, whole)
  where
    below : a % suc k ≤ k
    below = omega arith

    whole : negsuc a ≡ pos (suc k) *ℤ negsuc (a / suc k) +ℤ pos (k - a % suc k)
    whole = down (a / suc k) (a % suc k) a k (div-add-mod' a (suc k)) below
      where
        down : (q r a k : ℕ) → q * suc k + r ≡ a → r ≤ k → negsuc a ≡ pos (suc k) *ℤ negsuc q +ℤ pos (k - r)
        down q r a k e l = omega (arith, ints, e, l)

-- a multiple of k + 1 plus a remainder of at most k is at least 0 exactly if the multiple is
least : (k r : ℕ) (m : ℤ) → r ≤ k → pos 0 ≤ℤ (pos (suc k) *ℤ m +ℤ pos r) → pos 0 ≤ℤ m
least k r (pos m) l h = omega (arith, ints)
least k r (negsuc m) l h = absurd (below (mul-le-mul_ℤ (pos (suc k)) (negsuc m) (negsuc 0) (omega (arith, ints)) (omega (arith, ints))))
  where
    below : (pos (suc k) *ℤ negsuc m) ≤ℤ (pos (suc k) *ℤ negsuc 0) → ⊥
    below e = clash (pos (suc k) *ℤ negsuc m) e h
      where
        clash : (x : ℤ) → x ≤ℤ (pos (suc k) *ℤ negsuc 0) → pos 0 ≤ℤ (x +ℤ pos r) → ⊥
        clash x e h = omega (arith, ints, e, h, l)

more : (k r : ℕ) (m : ℤ) → pos 0 ≤ℤ m → pos 0 ≤ℤ (pos (suc k) *ℤ m +ℤ pos r)
more k r m h = at_least (pos (suc k) *ℤ m) (mul-nonneg_ℤ (pos (suc k)) m (omega (arith, ints)) h)
  where
    at_least : (x : ℤ) → pos 0 ≤ℤ x → pos 0 ≤ℤ (x +ℤ pos r)
    at_least x e = omega (arith, ints, e)

-- the value of a form at an integer point, by the divided form and the remainder of the constant
value-divided : (k : ℕ) (f : Form) (z : ℕ → ℤ) → DividesEach (suc k) f.coefs
    → form_value f z (pos 1)
    ≡ pos (suc k) *ℤ form_value (record { coefs = map (λ a. int_div a (pos (suc k))) f.coefs; constant = int_div_euclid f.constant (pos (suc k)) }) z (pos 1)
    +ℤ pos (floor-rest f.constant k).0
value-divided k f z h =
    (λ i. dot-divided (suc k) f.coefs z h i +ℤ (floor-rest f.constant k).2 i *ℤ pos 1)
    ∙ regroup (pos (suc k)) (list_dot (map (λ a. int_div a (pos (suc k))) f.coefs) z) (int_div_euclid f.constant (pos (suc k))) (pos (floor-rest f.constant k).0)
  where
    regroup : (g d c r : ℤ) → g *ℤ d +ℤ (g *ℤ c +ℤ r) *ℤ pos 1 ≡ g *ℤ (d +ℤ c *ℤ pos 1) +ℤ r
    regroup g d c r = sums (g *ℤ d) (g *ℤ c) r _ (ap (λ (u : ℤ). g *ℤ u) (one d c) ∙ mul-add_ℤ g d c)
      where
        one : (x y : ℤ) → x +ℤ y *ℤ pos 1 ≡ x +ℤ y
        one x y = omega (arith, ints)

        sums : (x y r w : ℤ) → w ≡ x +ℤ y → x +ℤ (y +ℤ r) *ℤ pos 1 ≡ w +ℤ r
        sums x y r w e = omega (arith, ints, e)

-- if the sum of the absolute values is 0, the product with each point is 0
dot-zero : (coefs : List ℤ) (z : ℕ → ℤ) → total_size coefs ≡ 0 → list_dot coefs z ≡ pos 0
dot-zero [] z e = refl
dot-zero (a ∷ coefs) z e = both a (z 0) _ (omega (arith, e)) (dot-zero coefs (λ k. z (suc k)) (omega (arith, e)))
  where
    both : (a x r : ℤ) → nat_abs a ≡ 0 → r ≡ pos 0 → a *ℤ x +ℤ r ≡ pos 0
    both (pos zero) x r e f = omega (arith, ints, f)
    both (pos (suc n)) x r e f = absurd (omega (arith, e))
    both (negsuc n) x r e f = absurd (omega (arith, e))

-- satisfying no rows, and satisfying one row
meets-none : (z : ℕ → ℤ) (d : ℤ) → Meets [] z d
meets-none z d = record { each = λ k e l. absurd (omega arith) }

meets-one : (f : Form) (z : ℕ → ℤ) (d : ℤ) → pos 0 ≤ℤ form_value f z d → Meets (f ∷ []) z d
meets-one f z d h = record { each = one }
  where
    one : All (λ r. pos 0 ≤ℤ form_value r z d) (f ∷ [])
    one zero e l = h
    one (suc k) e l = absurd (omega arith)

first-meets : (f : Form) (fs : List Form) (z : ℕ → ℤ) (d : ℤ) → Meets (f ∷ fs) z d → pos 0 ≤ℤ form_value f z d
first-meets f fs z d m = m.each 0 f (omega arith)

-- tightening preserves the integer solutions of a row
pub tightened-keeps : (f : Form) (z : ℕ → ℤ) → (pos 0 ≤ℤ form_value f z (pos 1)) ↔ Meets (tightened f) z (pos 1)
tightened-keeps f z = go (divisor_of f.coefs) refl
  where
    value-zero : divisor_of f.coefs ≡ 0 → form_value f z (pos 1) ≡ f.constant
    value-zero e = constant _ f.constant (dot-zero f.coefs z (divisor-zero f.coefs e))
      where
        constant : (x c : ℤ) → x ≡ pos 0 → x +ℤ c *ℤ pos 1 ≡ c
        constant x c g = omega (arith, ints, g)

    nothing : (b : Bool) → int_le (pos 0) f.constant ≡ b → divisor_of f.coefs ≡ 0
        → (pos 0 ≤ℤ form_value f z (pos 1)) ↔ Meets (if b then [] else record { coefs = f.coefs; constant = negsuc 0 } ∷ []) z (pos 1)
    nothing true t e = ((λ h. meets-none z (pos 1)), (λ m. subst (λ (x : ℤ). pos 0 ≤ℤ x) (sym (value-zero e)) (at_least f.constant t)))
      where
        at_least : (c : ℤ) → int_le (pos 0) c ≡ true → pos 0 ≤ℤ c
        at_least c t = grind (arith, ints)
    nothing false t e = (
      (λ h. absurd (under f.constant t (subst (λ (x : ℤ). pos 0 ≤ℤ x) (value-zero e) h))),
      (λ m. absurd (never _ (dot-zero f.coefs z (divisor-zero f.coefs e)) (first-meets (record { coefs = f.coefs; constant = negsuc 0 }) [] z (pos 1) m))),
    )
      where
        under : (c : ℤ) → int_le (pos 0) c ≡ false → pos 0 ≤ℤ c → ⊥
        under c t h = grind (arith, ints)

        never : (x : ℤ) → x ≡ pos 0 → pos 0 ≤ℤ (x +ℤ negsuc 0 *ℤ pos 1) → ⊥
        never x g h = omega (arith, ints, g, h)

    go : (g : ℕ) → divisor_of f.coefs ≡ g → (pos 0 ≤ℤ form_value f z (pos 1)) ↔ Meets (tightened_by g f) z (pos 1)
    go zero e = nothing (int_le (pos 0) f.constant) refl e
    go (suc k) e =
        let each = subst (λ (n : ℕ). DividesEach n f.coefs) e (divisor-divides f.coefs (omega (arith, e))) in
        let same = value-divided k f z each in
        let rest = floor-rest f.constant k in
        let divided : Form = record { coefs = map (λ a. int_div a (pos (suc k))) f.coefs; constant = int_div_euclid f.constant (pos (suc k)) } in (
          (λ h. meets-one divided z (pos 1) (least k rest.0 (form_value divided z (pos 1)) rest.1 (subst (λ (x : ℤ). pos 0 ≤ℤ x) same h))),
          (λ m. subst (λ (x : ℤ). pos 0 ≤ℤ x) (sym same) (more k rest.0 (form_value divided z (pos 1)) (first-meets divided [] z (pos 1) m))),
        )

-- tightening preserves the integer solutions of each row
pub keeps-whole-solutions : TighteningKeepsWholeSolutions
keeps-whole-solutions = record { each = tightened-keeps }

-- after one more element is replaced by its value
pub set-front : (f : ℤ → ℤ) (xs : List ℤ) (i : ℕ) (v : ℤ) → i < length xs → v ≡ f (get_or xs i (pos 0))
    → set (map f (take i xs) ++ drop i xs) i v ≡ map f (take (i + 1) xs) ++ drop (i + 1) xs
set-front f xs i v l e =
    ap (λ (w : ℤ). set (map f (take i xs) ++ drop i xs) i w) e
    ∙ (next xs i l ∙ ap (λ (n : ℕ). map f (take n xs) ++ drop n xs) (let g : suc i ≡ i + 1 = omega arith in g))
  where
    next : (xs : List ℤ) (i : ℕ) → i < length xs → set (map f (take i xs) ++ drop i xs) i (f (get_or xs i (pos 0))) ≡ map f (take (suc i) xs) ++ drop (suc i) xs
    next [] i l = absurd (omega arith)
    next (x ∷ xs) zero l = refl
    next (x ∷ xs) (suc i) l = ap (λ (ys : List ℤ). f x ∷ ys) (next xs i (omega arith))

-- the elements after a position are unchanged
pub get-behind : (f : ℤ → ℤ) (xs : List ℤ) (i : ℕ) (d : ℤ) → get_or (map f (take i xs) ++ drop i xs) i d ≡ get_or xs i d
get-behind f xs zero d = refl
get-behind f [] (suc i) d = refl
get-behind f (x ∷ xs) (suc i) d = get-behind f xs i d

-- in the end all elements are replaced
pub front-all : (f : ℤ → ℤ) (xs : List ℤ) (i : ℕ) → length xs ≤ i → map f (take i xs) ++ drop i xs ≡ map f xs
front-all f [] zero l = refl
front-all f [] (suc i) l = refl
front-all f (x ∷ xs) zero l = absurd (omega arith)
front-all f (x ∷ xs) (suc i) l = ap (λ (ys : List ℤ). f x ∷ ys) (front-all f xs i (omega arith))

-- after one more coefficient is divided
pub divide-step : (d : ℤ) (xs ys : List ℤ) (i : ℕ) → ys ≡ map (λ a. int_div a d) (take i xs) ++ drop i xs → i < length xs
    → set ys i (int_div (get_or ys i (pos 0)) d) ≡ map (λ a. int_div a d) (take (i + 1) xs) ++ drop (i + 1) xs
divide-step d xs ys i e l =
    ap (λ (zs : List ℤ). set zs i (int_div (get_or zs i (pos 0)) d)) e
    ∙ set-front (λ a. int_div a d) xs i _ l (ap (λ (a : ℤ). int_div a d) (get-behind (λ a. int_div a d) xs i (pos 0)))

-- the length is unchanged
pub front-length : (f : ℤ → ℤ) (xs : List ℤ) (i : ℕ) → length (map f (take i xs) ++ drop i xs) ≡ length xs
front-length f xs zero = refl
front-length f [] (suc i) = refl
front-length f (x ∷ xs) (suc i) = ap suc (front-length f xs i)

-- a row divided by the nonzero divisor of its coefficients is the tightened row
pub divided-is : (f g : Form) (d : ℤ) → d ≡ pos (divisor_of f.coefs) → d ≢ pos 0 → g.coefs ≡ map (λ a. int_div a d) f.coefs
    → g.constant ≡ int_div_euclid f.constant d → g ∷ [] ≡ tightened f
divided-is f g d e n c k = go (divisor_of f.coefs) e
  where
    go : (m : ℕ) → d ≡ pos m → g ∷ [] ≡ tightened_by m f
    go zero h = absurd (n h)
    go (suc m) h = λ i. record {
      coefs = (c ∙ ap (λ (x : ℤ). map (λ a. int_div a x) f.coefs) h) i;
      constant = (k ∙ ap (int_div_euclid f.constant) h) i;
    } ∷ []
