-- A bound that fits another one has at most its value.
use Rattle.std.proofs.Common.{◌≡◌, ℕ, zero, suc, ◌/◌, ◌^◌, ◌≤◌, max, ◌⊎◌, inl, inr, List, Bool, true, subst, arith}
use Rattle.std.specs.Prelude.{ℤ, ◌==◌, nat_le, ◌&&◌}
use Rattle.std.proofs.Math.Nat.{mul-le-mul, pow-le-pow_left, pow-le-pow_right, le_trans, div-mul-le_self}
use Rattle.std.proofs.lemmas.Nat.{le-div}
use Rattle.std.proofs.lemmas.Bool.{and_parts, or_cases, leb-true, eqb-true}
use Rattle.poly_terms.specs.model.Terms.{Term}
use Rattle.signed_bounds.specs.Bounds.{Signed, Constant, PositivePart, SumOf, ProductOf, MaximumOf, MinimumOf, Quotient}
use Rattle.signed_bounds.specs.Bounds.{Root, PowerOf, SignedParts, NoParts, Part, signed_val, signed_sum, signed_product}
use Rattle.signed_bounds.specs.Bounds.{signed_maximum, signed_minimum}
use Rattle.signed_bounds.specs.Safe.{IsSafe}
use Rattle.signed_bounds.specs.Fits.{fits, all_fit, is_equal, fits_some, maximum_parts, factor_fits}
use Rattle.signed_bounds.proofs.Choices.{contradiction}
use Rattle.signed_bounds.proofs.Roots.{whole_root-grows}
use Rattle.signed_bounds.proofs.PolynomialTerms.{is_below-le}

-- a quotient grows with its numerator
quotient-grows : (a b d : ℕ) → a ≤ b → a / d ≤ b / d
quotient-grows a b zero h = omega arith
quotient-grows a b (suc d) h = le-div (a / suc d) b (suc d) (omega arith) (le_trans (div-mul-le_self a (suc d)) h)

-- a quotient is at most the quotient of a greater numerator by the same divisor
quotient-le : (a b m n : ℕ) → m ≡ n → a ≤ b → a / m ≤ b / n
quotient-le a b m n e h = subst (λ (d : ℕ). a / m ≤ b / d) e (quotient-grows a b m h)

-- a power grows with its base and, if the base is at least 1, with its exponent
power-le : (m n a b : ℕ) → 1 ≤ m → m ≤ n → a ≤ b → m ^ a ≤ n ^ b
power-le m n a b based h k = le_trans (pow-le-pow_right based k) (pow-le-pow_left h b)

module _ (is_safe : Term → Bool) (safe : IsSafe is_safe) where
  mutual
    pub fits-le : (a b : Signed) → fits is_safe a b ≡ true → (x : List ℤ) → signed_val a x ≤ signed_val b x
    fits-le (Constant m) (Constant n) e x = leb-true m n e
    fits-le (PositivePart f) (PositivePart h) e x = is_below-le is_safe safe f h e x
    fits-le (SumOf ds) (SumOf bs) e x = all_fit-sum ds bs e x
    fits-le (ProductOf ds) (ProductOf bs) e x = all_fit-product ds bs e x
    fits-le (MaximumOf ds) (MaximumOf bs) e x = all_fit-maximum ds bs e x
    fits-le (MinimumOf a ds) (MinimumOf b bs) e x =
        let both = and_parts (fits is_safe a b) (all_fit is_safe ds bs) e in
        all_fit-minimum ds bs both.1 x (signed_val a x) (signed_val b x) (fits-le a b both.0 x)
    fits-le (Quotient a m) (Quotient b n) e x =
        let both = and_parts (m == n) (fits is_safe a b) e in
        quotient-le (signed_val a x) (signed_val b x) m n (eqb-true m n both.0) (fits-le a b both.1 x)
    fits-le (Root a) (Root b) e x = whole_root-grows (signed_val a x) (signed_val b x) (fits-le a b e x)
    fits-le (PowerOf m a) (PowerOf n b) e x =
        let both = and_parts (nat_le 1 m && nat_le m n) (fits is_safe a b) e in
        let bases = and_parts (nat_le 1 m) (nat_le m n) both.0 in
        power-le m n (signed_val a x) (signed_val b x) (leb-true 1 m bases.0) (leb-true m n bases.1)
        (fits-le a b both.1 x)
    fits-le _ _ e x = contradiction e

    pub all_fit-sum : (ds bs : SignedParts) → all_fit is_safe ds bs ≡ true → (x : List ℤ)
        → signed_sum ds x ≤ signed_sum bs x
    all_fit-sum NoParts NoParts e x = omega arith
    all_fit-sum (Part a ds) (Part b bs) e x =
        let both = and_parts (fits is_safe a b) (all_fit is_safe ds bs) e in
        omega (arith, fits-le a b both.0 x, all_fit-sum ds bs both.1 x)
    all_fit-sum _ _ e x = contradiction e

    pub all_fit-product : (ds bs : SignedParts) → all_fit is_safe ds bs ≡ true → (x : List ℤ)
        → signed_product ds x ≤ signed_product bs x
    all_fit-product NoParts NoParts e x = omega arith
    all_fit-product (Part a ds) (Part b bs) e x =
        let both = and_parts (fits is_safe a b) (all_fit is_safe ds bs) e in
        mul-le-mul (fits-le a b both.0 x) (all_fit-product ds bs both.1 x)
    all_fit-product _ _ e x = contradiction e

    pub all_fit-maximum : (ds bs : SignedParts) → all_fit is_safe ds bs ≡ true → (x : List ℤ)
        → signed_maximum ds x ≤ signed_maximum bs x
    all_fit-maximum NoParts NoParts e x = omega arith
    all_fit-maximum (Part a ds) (Part b bs) e x =
        let both = and_parts (fits is_safe a b) (all_fit is_safe ds bs) e in
        omega (arith, fits-le a b both.0 x, all_fit-maximum ds bs both.1 x)
    all_fit-maximum _ _ e x = contradiction e

    pub all_fit-minimum : (ds bs : SignedParts) → all_fit is_safe ds bs ≡ true → (x : List ℤ) (m n : ℕ) → m ≤ n
        → signed_minimum ds m x ≤ signed_minimum bs n x
    all_fit-minimum NoParts NoParts e x m n h = h
    all_fit-minimum (Part a ds) (Part b bs) e x m n h =
        let both = and_parts (fits is_safe a b) (all_fit is_safe ds bs) e in
        omega (arith, fits-le a b both.0 x, all_fit-minimum ds bs both.1 x m n h)
    all_fit-minimum _ _ e x m n h = contradiction e

  -- of two equal bounds the first is at most the second
  pub is_equal-le : (a b : Signed) → is_equal is_safe a b ≡ true → (x : List ℤ) → signed_val a x ≤ signed_val b x
  is_equal-le a b e x = fits-le a b (and_parts (fits is_safe a b) (fits is_safe b a) e).0 x

  -- a bound that fits some part is at most the maximum of the parts
  pub fits_some-le : (a : Signed) (bs : SignedParts) → fits_some is_safe a bs ≡ true → (x : List ℤ)
      → signed_val a x ≤ signed_maximum bs x
  fits_some-le a NoParts e x = contradiction e
  fits_some-le a (Part b bs) e x =
      go (or_cases (fits is_safe a b) (fits_some is_safe a bs) e) (λ k. fits_some-le a bs k x)
    where
      go : (fits is_safe a b ≡ true) ⊎ (fits_some is_safe a bs ≡ true)
          → (fits_some is_safe a bs ≡ true → signed_val a x ≤ signed_maximum bs x)
          → signed_val a x ≤ max (signed_val b x) (signed_maximum bs x)
      go (inl k) later = omega (arith, fits-le a b k x)
      go (inr k) later = omega (arith, later k)

  -- the maximum of a bound's parts is at most the bound
  pub maximum_parts-le : (b : Signed) (x : List ℤ) → signed_maximum (maximum_parts b) x ≤ signed_val b x
  maximum_parts-le (MaximumOf bs) x = omega arith
  maximum_parts-le _ x = omega arith

  -- a bound that fits a factor is at most it
  pub factor_fits-le : (a b : Signed) → factor_fits is_safe a b ≡ true → (x : List ℤ) → signed_val a x ≤ signed_val b x
  factor_fits-le a b e x = go (or_cases (fits is_safe a b) (fits_some is_safe a (maximum_parts b)) e)
    where
      go : (fits is_safe a b ≡ true) ⊎ (fits_some is_safe a (maximum_parts b) ≡ true) → signed_val a x ≤ signed_val b x
      go (inl k) = fits-le a b k x
      go (inr k) = omega (arith, fits_some-le a (maximum_parts b) k x, maximum_parts-le b x)
