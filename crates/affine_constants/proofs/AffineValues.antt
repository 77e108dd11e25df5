-- The value of an affine expression: that at the origin, and for each variable its value times what the expression gains
-- at the unit point.
use Rattle.std.proofs.Common.{◌≡◌, ◌≢◌, ℕ, ◌<◌, Bool, true, false, ◌&&◌, ◌||◌, List, [], ◌∷◌, length, replicate, get_or, refl}
use Rattle.std.proofs.Common.{ap, sym, ◌∙◌, arith}
use Rattle.std.specs.Prelude.{ℤ, pos, negsuc, ◌+ℤ◌, ◌-ℤ◌, ◌*ℤ◌, neg_ℤ, nat_lt}
use Rattle.std.proofs.lemmas.Int.{ints}
use Rattle.std.proofs.lemmas.Bool.{and_parts, ltb-true}
use Rattle.std.proofs.lemmas.List.{get_or-replicate, get_or-set_same, get_or-set_other, length-replicate}
use Rattle.poly_terms.specs.int_laws.Sums.{sum_to}
use Rattle.poly_terms.specs.int_laws.Polynomial.{variable, constant, ◌⊕◌, ◌⊖◌, ◌⊗◌, negated}
use Rattle.poly_terms.proofs.int_laws.Identities.{identity}
use Rattle.poly_terms.proofs.int_laws.RingLaws.{mul-zero_ℤ, mul-add_ℤ, add-mul_ℤ, mul_comm_ℤ}
use Rattle.poly_terms.proofs.int_laws.SumLaws.{sum_to-same, sum_to-zero, sum_to-add, sum_to-sub, sum_to-scale, sum_to-single}
use Rattle.poly_terms.specs.model.Terms.{Term, Literal, Variable, Negation, Addition, Subtraction, Multiplication}
use Rattle.poly_terms.specs.model.Terms.{Exponentiation, value}
use Rattle.affine_constants.specs.Constants.{is_literal, is_affine, origin, unit}

-- the value of variable i, times what an expression gains at its unit point
abbrev pub step : ℕ → Term → List ℤ → ℕ → ℤ
step n t env i = get_or env i (pos 0) *ℤ (value t (unit n i) -ℤ value t (origin n))

-- an expression's value is that at the origin and all steps
pub record IsSumOfSteps (n : ℕ) (t : Term) (env : List ℤ) : Type 0 where
  pub sum : value t env ≡ value t (origin n) +ℤ sum_to n (step n t env)

-- a literal has one value everywhere
literal-same : (d : Term) → is_literal d ≡ true → (xs ys : List ℤ) → value d xs ≡ value d ys
literal-same (Literal z) l xs ys = refl
literal-same (Variable i) l xs ys = cc
literal-same (Negation e) l xs ys = cc
literal-same (Addition d e) l xs ys = cc
literal-same (Subtraction d e) l xs ys = cc
literal-same (Multiplication d e) l xs ys = cc
literal-same (Exponentiation e k) l xs ys = cc

-- a literal
of_literal : (n : ℕ) (z : ℤ) (env : List ℤ) → IsSumOfSteps n (Literal z) env
of_literal n z env = record {
  sum = ends _ (sum_to-zero n (step n (Literal z) env) (λ i l. mul-zero_ℤ (get_or env i (pos 0)) (z -ℤ z) (none z)));
}
  where
    none : (y : ℤ) → y -ℤ y ≡ pos 0
    none y = omega (arith, ints)

    ends : (s : ℤ) → s ≡ pos 0 → z ≡ z +ℤ s
    ends s e = omega (arith, ints)

-- the value of a variable at the origin, at its unit point and at another one
at_origin : (n j : ℕ) → j < n → get_or (origin n) j (pos 0) ≡ pos 0
at_origin n j l = get_or-replicate n j (pos 0) (pos 0) l

at_own_unit : (n j : ℕ) → j < n → get_or (unit n j) j (pos 0) ≡ pos 1
at_own_unit n j l =
    let inside : j < length (origin n) = omega (arith, length-replicate n (pos 0)) in
    get_or-set_same (origin n) j (pos 1) (pos 0) inside

at_other_unit : (n i j : ℕ) → j < n → i ≢ j → get_or (unit n i) j (pos 0) ≡ pos 0
at_other_unit n i j l other =
    get_or-set_other (origin n) i j (pos 1) (pos 0) (λ e. other (sym e)) ∙ at_origin n j l

-- a variable
of_variable : (n j : ℕ) (env : List ℤ) → j < n → IsSumOfSteps n (Variable j) env
of_variable n j env l = record {
  sum = ends _ _ _ (at_origin n j l) (sum_to-single n j (step n (Variable j) env) l others ∙ own);
}
  where
    none : (x p o : ℤ) → p ≡ pos 0 → o ≡ pos 0 → x *ℤ (p -ℤ o) ≡ pos 0
    none x p o e f = mul-zero_ℤ x (p -ℤ o) (omega (arith, ints))

    others : (i : ℕ) → i < n → i ≢ j → step n (Variable j) env i ≡ pos 0
    others i m other =
        none (get_or env i (pos 0)) (get_or (unit n i) j (pos 0)) (get_or (origin n) j (pos 0))
        (at_other_unit n i j l other) (at_origin n j l)

    once : (x p o : ℤ) → p ≡ pos 1 → o ≡ pos 0 → x *ℤ (p -ℤ o) ≡ x
    once x p o e f = ap (λ (y : ℤ). x *ℤ y) (let d : p -ℤ o ≡ pos 1 = omega (arith, ints) in d) ∙ unchanged x
      where
        unchanged : (y : ℤ) → y *ℤ pos 1 ≡ y
        unchanged y = omega (arith, ints)

    own : step n (Variable j) env j ≡ get_or env j (pos 0)
    own =
        once (get_or env j (pos 0)) (get_or (unit n j) j (pos 0)) (get_or (origin n) j (pos 0)) (at_own_unit n j l)
        (at_origin n j l)

    ends : (x o s : ℤ) → o ≡ pos 0 → s ≡ x → x ≡ o +ℤ s
    ends x o s e f = omega (arith, ints)

-- an opposite
of_negation : (n : ℕ) (e : Term) (env : List ℤ) → IsSumOfSteps n e env → IsSumOfSteps n (Negation e) env
of_negation n e env h = record {
  sum = ends _ _ _ _ h.sum
      (sum_to-same n (step n (Negation e) env) (λ i. negsuc 0 *ℤ step n e env i) (λ i l. each i)
      ∙ sum_to-scale n (negsuc 0) (step n e env));
}
  where
    each : (i : ℕ) → step n (Negation e) env i ≡ negsuc 0 *ℤ step n e env i
    each i =
        identity (get_or env i (pos 0) ∷ value e (unit n i) ∷ value e (origin n) ∷ [])
        (variable 0 ⊗ (negated (variable 1) ⊖ negated (variable 2)))
        (constant (negsuc 0) ⊗ (variable 0 ⊗ (variable 1 ⊖ variable 2))) refl

    ends : (v o s r : ℤ) → v ≡ o +ℤ s → r ≡ negsuc 0 *ℤ s → neg_ℤ v ≡ neg_ℤ o +ℤ r
    ends v o s r a b = omega (arith, ints)

-- a sum
of_addition : (n : ℕ) (d e : Term) (env : List ℤ) → IsSumOfSteps n d env → IsSumOfSteps n e env
    → IsSumOfSteps n (Addition d e) env
of_addition n d e env g h = record {
  sum = ends (value d env) (value e env) (value d (origin n)) (value e (origin n)) (sum_to n (step n d env))
      (sum_to n (step n e env)) (sum_to n (step n (Addition d e) env)) g.sum h.sum
      (sum_to-same n (step n (Addition d e) env) (λ i. step n d env i +ℤ step n e env i) (λ i l. each i)
      ∙ sum_to-add n (step n d env) (step n e env));
}
  where
    each : (i : ℕ) → step n (Addition d e) env i ≡ step n d env i +ℤ step n e env i
    each i =
        identity
        (get_or env i (pos 0) ∷ value d (unit n i) ∷ value d (origin n) ∷ value e (unit n i) ∷ value e (origin n) ∷ [])
        (variable 0 ⊗ ((variable 1 ⊕ variable 3) ⊖ (variable 2 ⊕ variable 4)))
        (variable 0 ⊗ (variable 1 ⊖ variable 2) ⊕ variable 0 ⊗ (variable 3 ⊖ variable 4)) refl

    ends : (v w o p s r q : ℤ) → v ≡ o +ℤ s → w ≡ p +ℤ r → q ≡ s +ℤ r → v +ℤ w ≡ (o +ℤ p) +ℤ q
    ends v w o p s r q a b f = omega (arith, ints)

-- a difference
of_subtraction : (n : ℕ) (d e : Term) (env : List ℤ) → IsSumOfSteps n d env → IsSumOfSteps n e env
    → IsSumOfSteps n (Subtraction d e) env
of_subtraction n d e env g h = record {
  sum = ends (value d env) (value e env) (value d (origin n)) (value e (origin n)) (sum_to n (step n d env))
      (sum_to n (step n e env)) (sum_to n (step n (Subtraction d e) env)) g.sum h.sum
      (sum_to-same n (step n (Subtraction d e) env) (λ i. step n d env i -ℤ step n e env i) (λ i l. each i)
      ∙ sum_to-sub n (step n d env) (step n e env));
}
  where
    each : (i : ℕ) → step n (Subtraction d e) env i ≡ step n d env i -ℤ step n e env i
    each i =
        identity
        (get_or env i (pos 0) ∷ value d (unit n i) ∷ value d (origin n) ∷ value e (unit n i) ∷ value e (origin n) ∷ [])
        (variable 0 ⊗ ((variable 1 ⊖ variable 3) ⊖ (variable 2 ⊖ variable 4)))
        (variable 0 ⊗ (variable 1 ⊖ variable 2) ⊖ variable 0 ⊗ (variable 3 ⊖ variable 4)) refl

    ends : (v w o p s r q : ℤ) → v ≡ o +ℤ s → w ≡ p +ℤ r → q ≡ s -ℤ r → v -ℤ w ≡ (o -ℤ p) +ℤ q
    ends v w o p s r q a b f = omega (arith, ints)

-- what is scaled by c: a factor's value at two points, and how it changes
scaled_sum : (c v o s r : ℤ) → v ≡ o +ℤ s → r ≡ c *ℤ s → c *ℤ v ≡ c *ℤ o +ℤ r
scaled_sum c v o s r a b = ap (λ (z : ℤ). c *ℤ z) a ∙ (mul-add_ℤ c o s ∙ ap (λ (z : ℤ). c *ℤ o +ℤ z) (sym b))

-- a product whose first factor is a literal
of_product : (n : ℕ) (d e : Term) (env : List ℤ) → is_literal d ≡ true → IsSumOfSteps n e env
    → IsSumOfSteps n (Multiplication d e) env
of_product n d e env l h = record {
  sum = ap (λ (z : ℤ). z *ℤ value e env) (literal-same d l env (origin n))
      ∙ scaled_sum (value d (origin n)) _ _ _ _ h.sum
      (sum_to-same n (step n (Multiplication d e) env) (λ i. value d (origin n) *ℤ step n e env i) (λ i m. each i)
      ∙ sum_to-scale n (value d (origin n)) (step n e env));
}
  where
    each : (i : ℕ) → step n (Multiplication d e) env i ≡ value d (origin n) *ℤ step n e env i
    each i =
        ap (λ (z : ℤ). get_or env i (pos 0) *ℤ (z *ℤ value e (unit n i) -ℤ value d (origin n) *ℤ value e (origin n)))
        (literal-same d l (unit n i) (origin n))
        ∙ identity (get_or env i (pos 0) ∷ value d (origin n) ∷ value e (unit n i) ∷ value e (origin n) ∷ [])
        (variable 0 ⊗ (variable 1 ⊗ variable 2 ⊖ variable 1 ⊗ variable 3))
        (variable 1 ⊗ (variable 0 ⊗ (variable 2 ⊖ variable 3))) refl

-- the factors of a product change places
of_swapped : (n : ℕ) (d e : Term) (env : List ℤ) → IsSumOfSteps n (Multiplication e d) env
    → IsSumOfSteps n (Multiplication d e) env
of_swapped n d e env h = record {
  sum = mul_comm_ℤ (value d env) (value e env) ∙ (h.sum
      ∙ (ap (λ (z : ℤ). z +ℤ sum_to n (step n (Multiplication e d) env)) (mul_comm_ℤ (value e (origin n)) (value d (origin n)))
      ∙ ap (λ (z : ℤ). value d (origin n) *ℤ value e (origin n) +ℤ z)
      (sum_to-same n (step n (Multiplication e d) env) (step n (Multiplication d e) env) (λ i l. each i))));
}
  where
    each : (i : ℕ) → step n (Multiplication e d) env i ≡ step n (Multiplication d e) env i
    each i =
        identity
        (get_or env i (pos 0) ∷ value e (unit n i) ∷ value d (unit n i) ∷ value e (origin n) ∷ value d (origin n) ∷ [])
        (variable 0 ⊗ (variable 1 ⊗ variable 2 ⊖ variable 3 ⊗ variable 4))
        (variable 0 ⊗ (variable 2 ⊗ variable 1 ⊖ variable 4 ⊗ variable 3)) refl

-- the value of an affine expression is that at the origin and all steps
pub affine-sum : (n : ℕ) (t : Term) → is_affine n t ≡ true → (env : List ℤ) → IsSumOfSteps n t env
affine-sum n (Literal z) a env = of_literal n z env
affine-sum n (Variable j) a env = of_variable n j env (ltb-true j n a)
affine-sum n (Negation e) a env = of_negation n e env (affine-sum n e a env)
affine-sum n (Addition d e) a env =
    let both = and_parts (is_affine n d) (is_affine n e) a in
    of_addition n d e env (affine-sum n d both.0 env) (affine-sum n e both.1 env)
affine-sum n (Subtraction d e) a env =
    let both = and_parts (is_affine n d) (is_affine n e) a in
    of_subtraction n d e env (affine-sum n d both.0 env) (affine-sum n e both.1 env)
affine-sum n (Multiplication d e) a env =
    go (is_literal d && is_affine n e) refl a (λ h. affine-sum n d h env) (λ h. affine-sum n e h env)
  where
    go : (b : Bool) → (is_literal d && is_affine n e) ≡ b → (b || (is_literal e && is_affine n d)) ≡ true
        → (is_affine n d ≡ true → IsSumOfSteps n d env) → (is_affine n e ≡ true → IsSumOfSteps n e env)
        → IsSumOfSteps n (Multiplication d e) env
    go true is h of_d of_e =
        let both = and_parts (is_literal d) (is_affine n e) is in of_product n d e env both.0 (of_e both.1)
    go false is h of_d of_e =
        let both = and_parts (is_literal e) (is_affine n d) h in
        of_swapped n d e env (of_product n e d env both.0 (of_d both.1))
affine-sum n (Exponentiation e k) a env = absurd (wrong a)
  where
    wrong : false ≡ true → ⊥
    wrong h = cc
