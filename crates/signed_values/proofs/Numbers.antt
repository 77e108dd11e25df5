-- Values of quotients, roots, powers and minima up to a limit.
use Rattle.std.proofs.Common.{◌≡◌, ◌∙◌, ℕ, zero, suc, ◌+◌, ◌*◌, ◌^◌, ◌/◌, ◌<◌, ◌≤◌, min, Option, Some, None}
use Rattle.std.proofs.Common.{ap, arith}
use Rattle.std.specs.Prelude.{ℤ, List, IfSome}
use Rattle.std.specs.Option.{IsSomeAnd}
use Rattle.std.proofs.Math.Nat.{div-le_self, mul-le-mul}
use Rattle.bound_expr.specs.Capped.{capped}
use Rattle.bound_expr.specs.Limits.{cap}
use Rattle.bound_expr.proofs.Caps.{min-pow}
use Rattle.signed_bounds.specs.Bounds.{SignedParts, NoParts, Part, signed_minimum, whole_root}
use Rattle.signed_bounds.proofs.Roots.{whole_root-unique, whole_root-square}

-- the whole root of a number, by its square and the next one
pub root_is : (r n : ℕ) → r * r ≤ n → n < (r + 1) * (r + 1) → r ≡ whole_root n
root_is r n low high = whole_root-unique r n low (omega arith)

-- the whole root of a number is at most the number
root-at_most : (n : ℕ) → whole_root n ≤ n
root-at_most n = go (whole_root n) (whole_root-square n)
  where
    go : (r : ℕ) → r * r ≤ n → r ≤ n
    go zero h = omega arith
    go (suc r) h = let e : suc r * 1 ≤ suc r * suc r = mul-le-mul (omega arith) (omega arith) in omega arith

-- the quotient of a known value below the limit
pub quotient-known : (d n : ℕ) (value result : Option ℕ) → IfSome value (λ v. v ≡ capped n)
    → IfSome result (λ v. IsSomeAnd value (λ m. (m < cap) × (v ≡ m / d)))
    → IfSome result (λ v. v ≡ capped (n / d))
quotient-known d n value None known found = tt
quotient-known d n None (Some v) known found = absurd found
quotient-known d n (Some m) (Some v) known found = go (found.1 ∙ ap (λ (k : ℕ). k / d) same)
  where
    same : m ≡ n
    same = let low : m < cap = found.0 in omega arith

    go : v ≡ n / d → v ≡ capped (n / d)
    go e =
        let low : m < cap = found.0 in
        let less : n / d ≤ n = div-le_self n d in
        let equal : m ≡ n = same in omega arith

-- the root of a known value below the limit
pub root-known : (n : ℕ) (value result : Option ℕ) → IfSome value (λ v. v ≡ capped n)
    → IfSome result (λ v. IsSomeAnd value (λ m. (m < cap) × (v ≡ whole_root m)))
    → IfSome result (λ v. v ≡ capped (whole_root n))
root-known n value None known found = tt
root-known n None (Some v) known found = absurd found
root-known n (Some m) (Some v) known found = go (found.1 ∙ ap whole_root same)
  where
    same : m ≡ n
    same = let low : m < cap = found.0 in omega arith

    go : v ≡ whole_root n → v ≡ capped (whole_root n)
    go e =
        let low : m < cap = found.0 in
        let less : whole_root n ≤ n = root-at_most n in
        let equal : m ≡ n = same in omega arith

-- a power with a known exponent
pub power-known : (c n : ℕ) (value result : Option ℕ) → IfSome value (λ v. v ≡ capped n)
    → IfSome result (λ v. IsSomeAnd value (λ m. v ≡ capped (c ^ m)))
    → IfSome result (λ v. v ≡ capped (c ^ n))
power-known c n value None known found = tt
power-known c n None (Some v) known found = absurd found
power-known c n (Some m) (Some v) known found =
    found ∙ ap (λ (k : ℕ). capped (c ^ k)) known ∙ min-pow c n cap (omega arith)

-- of the minima of values and of each of two numbers the lesser with the other number is the same
minimum-from : (bs : SignedParts) (n m : ℕ) (x : List ℤ) → min m (signed_minimum bs n x) ≡ min n (signed_minimum bs m x)
minimum-from NoParts n m x = omega arith
minimum-from (Part b bs) n m x = omega (arith, minimum-from bs n m x)

-- a minimum of known values
pub minimum-known : (bs : SignedParts) (n : ℕ) (x : List ℤ) (value others result : Option ℕ)
    → IfSome value (λ v. v ≡ capped n) → IfSome others (λ v. v ≡ signed_minimum bs cap x)
    → IfSome result (λ v. IsSomeAnd value (λ k. IsSomeAnd others (λ m. v ≡ min k m)))
    → IfSome result (λ v. v ≡ capped (signed_minimum bs n x))
minimum-known bs n x value others None known are found = tt
minimum-known bs n x None others (Some v) known are found = absurd found
minimum-known bs n x (Some k) None (Some v) known are found = absurd found
minimum-known bs n x (Some k) (Some m) (Some v) known are found =
    omega (arith, minimum-from bs n cap x, minimum-at_most bs n x)
  where
    minimum-at_most : (bs : SignedParts) (n : ℕ) (x : List ℤ) → signed_minimum bs n x ≤ n
    minimum-at_most NoParts n x = omega arith
    minimum-at_most (Part b bs) n x = omega (arith, minimum-at_most bs n x)
