-- An expression that the test finds affine has, in each turn, the value that its first value and its slope give.
use Rattle.std.proofs.Common.{◌≡◌, if◌then◌else◌, Bool, true, false, ℕ, zero, suc, List, [], ◌∷◌, map, get_or, ℤ, pos}
use Rattle.std.proofs.Common.{◌+ℤ◌, ◌-ℤ◌, ◌*ℤ◌, neg_ℤ, Option, Some, None, refl, sym, ◌∙◌, ap, subst, arith}
use Rattle.std.specs.Prelude.{option_and_then}
use Rattle.std.specs.Int.{int_pow}
use Rattle.std.specs.Ordering.{int_eq}
use Rattle.std.proofs.lemmas.Int.{ints}
use Rattle.std.proofs.lemmas.Bool.Decides.{Decides-int_eq}
use Rattle.poly_terms.proofs.int_laws.Identities.{identity}
use Rattle.poly_terms.proofs.int_laws.RingLaws.{mul-zero_ℤ, zero-mul_ℤ, mul_comm_ℤ}
use Rattle.poly_terms.specs.int_laws.Polynomial.{variable, ◌⊕◌, ◌⊖◌, ◌⊗◌, negated}
use Rattle.its_model.specs.model.Terms.{Term, Literal, Variable, Negation, Addition, Subtraction, Multiplication}
use Rattle.its_model.specs.model.Terms.{Exponentiation, value}
use Rattle.its_model.specs.poly_terms.Checked.{fits}
use Rattle.its_model.proofs.poly_terms.model.Cases.{some_same, none_some}
use Rattle.affine_turns.specs.declared.affine.Affine.{Affine}
use Rattle.affine_turns.specs.Affine.{after_turns, constant, with_both, in_range, opposite, sum, difference, scaled, product}
use Rattle.affine_turns.specs.Affine.{power, affine_of}
use Rattle.affine_turns.specs.Laws.{AffineValuesAreRight}

-- an affine value is unchanged by the check of its range
in_range-same : (a b : Affine) → in_range a ≡ Some b → a ≡ b
in_range-same a b e = go (fits a.first) (fits a.slope) e
  where
    go : (s t : Bool) → with_both (if s then Some a.first else None) (if t then Some a.slope else None) ≡ Some b → a ≡ b
    go true true h = some_same a b h
    go true false h = absurd (none_some b h)
    go false t h = absurd (none_some b h)

-- if an optional value yields a result, there was a value, and the result is that of the value
and_then-there : (f : Affine → Option Affine) (o : Option Affine) (b : Affine) → option_and_then f o ≡ Some b
    → (a : Affine) × (o ≡ Some a) × (f a ≡ Some b)
and_then-there f None b e = absurd (none_some b e)
and_then-there f (Some a) b e = (a, refl, e)

-- a constant has the same value in each turn
pub constant-after : (n : ℕ) (z : ℤ) → after_turns n (constant z) ≡ z
constant-after n z = omega (arith, ints, mul-zero_ℤ (pos n) (pos 0) refl)

stays-after : (n : ℕ) (a : Affine) → a.slope ≡ pos 0 → after_turns n a ≡ a.first
stays-after n a e = omega (arith, ints, mul-zero_ℤ (pos n) a.slope e)

-- in the first turn (n = 0) an affine value is its first value
pub after-0 : (a : Affine) → after_turns 0 a ≡ a.first
after-0 a = omega (arith, ints, zero-mul_ℤ (pos 0) a.slope refl)

-- the value of a variable, in each turn
variable-after : (i : ℕ) (env : List Affine) (n : ℕ)
    → get_or (map (after_turns n) env) i (pos 0) ≡ after_turns n (get_or env i (constant (pos 0)))
variable-after i [] n = sym (constant-after n (pos 0))
variable-after zero (a ∷ env) n = refl
variable-after (suc i) (a ∷ env) n = variable-after i env n

-- the values of opposites, sums and differences, in each turn
opposite-after : (a b : Affine) (n : ℕ) → opposite a ≡ Some b → neg_ℤ (after_turns n a) ≡ after_turns n b
opposite-after a b n e =
    identity (a.first ∷ pos n ∷ a.slope ∷ []) (negated (variable 0 ⊕ variable 1 ⊗ variable 2))
    (negated (variable 0) ⊕ variable 1 ⊗ negated (variable 2)) refl
    ∙ ap (after_turns n) (in_range-same (record { first = neg_ℤ a.first; slope = neg_ℤ a.slope }) b e)

sum-after : (a b c : Affine) (n : ℕ) → sum a b ≡ Some c → after_turns n a +ℤ after_turns n b ≡ after_turns n c
sum-after a b c n e =
    identity (a.first ∷ b.first ∷ pos n ∷ a.slope ∷ b.slope ∷ [])
    ((variable 0 ⊕ variable 2 ⊗ variable 3) ⊕ (variable 1 ⊕ variable 2 ⊗ variable 4))
    ((variable 0 ⊕ variable 1) ⊕ variable 2 ⊗ (variable 3 ⊕ variable 4)) refl
    ∙ ap (after_turns n) (in_range-same (record { first = a.first +ℤ b.first; slope = a.slope +ℤ b.slope }) c e)

difference-after : (a b c : Affine) (n : ℕ) → difference a b ≡ Some c
    → after_turns n a -ℤ after_turns n b ≡ after_turns n c
difference-after a b c n e =
    identity (a.first ∷ b.first ∷ pos n ∷ a.slope ∷ b.slope ∷ [])
    ((variable 0 ⊕ variable 2 ⊗ variable 3) ⊖ (variable 1 ⊕ variable 2 ⊗ variable 4))
    ((variable 0 ⊖ variable 1) ⊕ variable 2 ⊗ (variable 3 ⊖ variable 4)) refl
    ∙ ap (after_turns n) (in_range-same (record { first = a.first -ℤ b.first; slope = a.slope -ℤ b.slope }) c e)

-- the values of products, in each turn
scaled-after : (z : ℤ) (a c : Affine) (n : ℕ) → scaled z a ≡ Some c → z *ℤ after_turns n a ≡ after_turns n c
scaled-after z a c n e =
    identity (z ∷ a.first ∷ pos n ∷ a.slope ∷ []) (variable 0 ⊗ (variable 1 ⊕ variable 2 ⊗ variable 3))
    (variable 0 ⊗ variable 1 ⊕ variable 2 ⊗ (variable 0 ⊗ variable 3)) refl
    ∙ ap (after_turns n) (in_range-same (record { first = z *ℤ a.first; slope = z *ℤ a.slope }) c e)

product-after : (a b c : Affine) (n : ℕ) → product a b ≡ Some c → after_turns n a *ℤ after_turns n b ≡ after_turns n c
product-after a b c n e = go (int_eq a.slope (pos 0)) (int_eq b.slope (pos 0)) refl refl e
  where
    go : (s t : Bool) → int_eq a.slope (pos 0) ≡ s → int_eq b.slope (pos 0) ≡ t
        → (if s then scaled a.first b else if t then scaled b.first a else None) ≡ Some c
        → after_turns n a *ℤ after_turns n b ≡ after_turns n c
    go true t is other h =
        ap (λ (z : ℤ). z *ℤ after_turns n b) (stays-after n a ((Decides-int_eq a.slope (pos 0)).0 is))
        ∙ scaled-after a.first b c n h
    go false true isnt is h =
        ap (λ (z : ℤ). after_turns n a *ℤ z) (stays-after n b ((Decides-int_eq b.slope (pos 0)).0 is))
        ∙ (mul_comm_ℤ (after_turns n a) b.first ∙ scaled-after b.first a c n h)
    go false false isnt other h = absurd (none_some c h)

-- the values of powers, in each turn
power-after : (a c : Affine) (exponent n : ℕ) → power a exponent ≡ Some c → int_pow (after_turns n a) exponent ≡ after_turns n c
power-after a c exponent n e = go (int_eq a.slope (pos 0)) refl e
  where
    go : (s : Bool) → int_eq a.slope (pos 0) ≡ s
        → (if s then in_range (constant (int_pow a.first exponent)) else None) ≡ Some c
        → int_pow (after_turns n a) exponent ≡ after_turns n c
    go true is h =
        ap (λ (z : ℤ). int_pow z exponent) (stays-after n a ((Decides-int_eq a.slope (pos 0)).0 is))
        ∙ (sym (constant-after n (int_pow a.first exponent))
        ∙ ap (after_turns n) (in_range-same (constant (int_pow a.first exponent)) c h))
    go false isnt h = absurd (none_some c h)

-- the value of an expression in each turn, by induction over its parts
pub value-after : (t : Term) (env : List Affine) (a : Affine) (n : ℕ) → affine_of t env ≡ Some a
    → value t (map (after_turns n) env) ≡ after_turns n a
value-after (Literal z) env a n e = sym (constant-after n z) ∙ ap (after_turns n) (some_same (constant z) a e)
value-after (Variable i) env a n e =
    variable-after i env n ∙ ap (after_turns n) (some_same (get_or env i (constant (pos 0))) a e)
value-after (Negation t) env a n e =
    let one = and_then-there opposite (affine_of t env) a e in
    ap neg_ℤ (value-after t env one.0 n one.1) ∙ opposite-after one.0 a n one.2
value-after (Addition s t) env c n e =
    let one = and_then-there (λ x. option_and_then (sum x) (affine_of t env)) (affine_of s env) c e in
    let two = and_then-there (sum one.0) (affine_of t env) c one.2 in
    ap (λ (z : ℤ). z +ℤ value t (map (after_turns n) env)) (value-after s env one.0 n one.1)
    ∙ (ap (λ (z : ℤ). after_turns n one.0 +ℤ z) (value-after t env two.0 n two.1) ∙ sum-after one.0 two.0 c n two.2)
value-after (Subtraction s t) env c n e =
    let one = and_then-there (λ x. option_and_then (difference x) (affine_of t env)) (affine_of s env) c e in
    let two = and_then-there (difference one.0) (affine_of t env) c one.2 in
    ap (λ (z : ℤ). z -ℤ value t (map (after_turns n) env)) (value-after s env one.0 n one.1)
    ∙ (ap (λ (z : ℤ). after_turns n one.0 -ℤ z) (value-after t env two.0 n two.1)
    ∙ difference-after one.0 two.0 c n two.2)
value-after (Multiplication s t) env c n e =
    let one = and_then-there (λ x. option_and_then (product x) (affine_of t env)) (affine_of s env) c e in
    let two = and_then-there (product one.0) (affine_of t env) c one.2 in
    ap (λ (z : ℤ). z *ℤ value t (map (after_turns n) env)) (value-after s env one.0 n one.1)
    ∙ (ap (λ (z : ℤ). after_turns n one.0 *ℤ z) (value-after t env two.0 n two.1)
    ∙ product-after one.0 two.0 c n two.2)
value-after (Exponentiation t exponent) env a n e =
    let one = and_then-there (λ x. power x exponent) (affine_of t env) a e in
    ap (λ (z : ℤ). int_pow z exponent) (value-after t env one.0 n one.1) ∙ power-after one.0 a exponent n one.2

pub affine_values_right : AffineValuesAreRight
affine_values_right = record { each = λ t env a e n. value-after t env a n e }
