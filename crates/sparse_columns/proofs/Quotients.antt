-- Quotients are at most as large as the number that is divided.
use Rattle.std.proofs.Common.{◌≡◌, ℕ, ◌*◌, ◌<◌, ◌≤◌, ap, arith, sym, ◌∙◌}
use Rattle.std.specs.Prelude.{ℤ, pos, ◌*ℤ◌, ◌<ℤ◌, unsigned_abs}
use Rattle.std.proofs.Math.Nat.{mul-le-mul_left}
use Rattle.std.proofs.lemmas.Int.{ints, unsigned_abs-mul}

-- a quotient by a number above 0 is at most the number in absolute value
pub quotient-size : (a g n : ℤ) → pos 0 <ℤ g → n *ℤ g ≡ a → unsigned_abs n ≤ unsigned_abs a
quotient-size a g n positive e =
    let size = sym (unsigned_abs-mul n g) ∙ ap unsigned_abs e in
    at_least (unsigned_abs n) (unsigned_abs g) (unsigned_abs a) (omega (arith, ints)) size
  where
    at_least : (n g a : ℕ) → 0 < g → n * g ≡ a → n ≤ a
    at_least n g a l e = let p : n * 1 ≤ n * g = mul-le-mul_left n l in omega (arith, e, p)
