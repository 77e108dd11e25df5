-- A goal that a certificate shows is at least 0 wherever the rows are.
use Rattle.std.proofs.Common.{◌≡◌, ℕ, zero, suc, Bool, true, false, List, [], ◌∷◌, refl, arith}
use Rattle.std.specs.Prelude.{ℤ, pos, ◌+ℤ◌, ◌-ℤ◌, ◌*ℤ◌, ◌≤ℤ◌, ◌||◌, neg_ℤ, slice_index_or}
use Rattle.std.proofs.lemmas.Int.{ints}
use Rattle.potentials.specs.model.Terms.{Term, Negation, Addition, Subtraction, value}
use Rattle.potentials.proofs.int_laws.OrderLaws.{mul-nonneg_ℤ}
use Rattle.potentials.proofs.int_laws.RingLaws.{mul-zero_ℤ}
use Rattle.affine_constants.specs.Constants.{is_natural_constant}
use Rattle.affine_constants.proofs.Constants.{natural_constants_natural}
use Rattle.signed_bounds.specs.Safe.{IsSafe}
use Rattle.potential_nodes.specs.PolynomialTerms.{term_at}
use Rattle.potential_nodes.specs.Certificates.{Summand, OneRow, TwoRows, ZeroRow, summand_term, rest, are_opposite}
use Rattle.potential_nodes.specs.Certificates.{all_opposite, unknown_limit, is_never_negative, shows, RowsHoldAt}
use Rattle.potential_nodes.specs.Certificates.{CertificatesOfProductsHold}
use Rattle.potential_nodes.proofs.LookupLaws.{both-hold}

-- an expression that passes the test or is a natural constant is never negative
never_negative-safe : (is_safe : Term → Bool) → IsSafe is_safe → IsSafe (is_never_negative is_safe)
never_negative-safe is_safe safe = record { each = λ t h env. go t env (is_safe t) refl h }
  where
    go : (t : Term) (env : List ℤ) (v : Bool) → is_safe t ≡ v → (v || is_natural_constant unknown_limit t) ≡ true
        → pos 0 ≤ℤ value t env
    go t env true is h = safe.each t is env
    go t env false is h = let law = natural_constants_natural in law.natural unknown_limit t h env

module _ (is_safe : Term → Bool) (safe : IsSafe is_safe) (rows : List Term) (z : List ℤ) where
  -- a row of the list is at least 0, and a row that doesn't exist is 0
  row-holds : (rows : List Term) → RowsHoldAt rows z → (i : ℕ) → pos 0 ≤ℤ value (term_at rows i) z
  row-holds [] hold i = omega (arith, ints)
  row-holds (r ∷ rows) (first, others) zero = first
  row-holds (r ∷ rows) (first, others) (suc i) = row-holds rows others i

  -- each summand is at least 0
  summand-holds : RowsHoldAt rows z → (s : Summand) → are_opposite is_safe rows s ≡ true
      → pos 0 ≤ℤ value (summand_term rows s) z
  summand-holds hold (OneRow m i) h =
      mul-nonneg_ℤ (pos m) (value (term_at rows i) z) (omega (arith, ints)) (row-holds rows hold i)
  summand-holds hold (TwoRows m i j) h =
      mul-nonneg_ℤ (pos m) (value (term_at rows i) z *ℤ value (term_at rows j) z) (omega (arith, ints))
      (mul-nonneg_ℤ (value (term_at rows i) z) (value (term_at rows j) z) (row-holds rows hold i) (row-holds rows hold j))
  summand-holds hold (ZeroRow m i k u) h =
      let x = slice_index_or z u (pos 0) in
      let first = row-holds rows hold i in
      let second = row-holds rows hold k in
      let sure = never_negative-safe is_safe safe in
      let opposite = sure.each (Negation (Addition (term_at rows i) (term_at rows k))) h z in
      let none = zero_row (value (term_at rows i) z) (value (term_at rows k) z) first second opposite in
      let product = mul-zero_ℤ x (value (term_at rows i) z) none in
      let all = mul-zero_ℤ m (x *ℤ value (term_at rows i) z) product in
      at_least (m *ℤ (x *ℤ value (term_at rows i) z)) all
    where
      zero_row : (a b : ℤ) → pos 0 ≤ℤ a → pos 0 ≤ℤ b → pos 0 ≤ℤ neg_ℤ (a +ℤ b) → a ≡ pos 0
      zero_row a b h i k = omega (arith, ints, h, i, k)

      at_least : (a : ℤ) → a ≡ pos 0 → pos 0 ≤ℤ a
      at_least a e = omega (arith, ints)

  -- a goal minus the summands is at most the goal
  pub goal-holds : RowsHoldAt rows z → (summands : List Summand) (goal : Term)
      → all_opposite is_safe rows summands ≡ true → pos 0 ≤ℤ value (rest rows summands goal) z
      → pos 0 ≤ℤ value goal z
  goal-holds hold [] goal h left = left
  goal-holds hold (s ∷ summands) goal h left =
      let both = both-hold (are_opposite is_safe rows s) (all_opposite is_safe rows summands) h in
      let less = goal-holds hold summands (Subtraction goal (summand_term rows s)) both.1 left in
      let part = summand-holds hold s both.0 in
      more (value goal z) (value (summand_term rows s) z) less part
    where
      more : (a b : ℤ) → pos 0 ≤ℤ (a -ℤ b) → pos 0 ≤ℤ b → pos 0 ≤ℤ a
      more a b h i = omega (arith, ints)

pub shown-holds : (is_safe : Term → Bool) → IsSafe is_safe → (rows : List Term) (summands : List Summand) (goal : Term)
    → shows is_safe rows summands goal ≡ true → (z : List ℤ) → RowsHoldAt rows z → pos 0 ≤ℤ value goal z
shown-holds is_safe safe rows summands goal h z hold =
    let left = rest rows summands goal in
    let sure = never_negative-safe is_safe safe in
    let both = both-hold (all_opposite is_safe rows summands) (is_never_negative is_safe left) h in
    goal-holds is_safe safe rows z hold summands goal both.0 (sure.each left both.1 z)

pub certificates_hold : CertificatesOfProductsHold
certificates_hold = record { each = shown-holds }
