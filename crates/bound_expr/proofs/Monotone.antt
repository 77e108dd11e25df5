-- Values grow with the inputs where the bases are at least 1.
use Rattle.std.proofs.Common.{ℕ, ◌≤◌, List, arith}
use Rattle.std.proofs.Math.Nat.{mul-le-mul, pow-le-pow_right}
use Rattle.model.specs.Bounds.{Bound, Constant, Input, SumOf, ProductOf, MaximumOf, PowerOf, Parts, NoParts, Part, val}
use Rattle.model.specs.Bounds.{val_sum, val_product, val_maximum, IsBased, AreBased}
use Rattle.bound_expr.specs.Growth.{IsBelow, GrowsWithInputs}

mutual
  -- with bases of at least 1 the value of a bound grows with its inputs
  pub val-grows : (b : Bound) → IsBased b → (m n : List ℕ) → IsBelow m n → val b m ≤ val b n
  val-grows (Constant c) based m n below = omega arith
  val-grows (Input i) based m n below = below i
  val-grows (SumOf bs) based m n below = val_sum-grows bs based.1 m n below
  val-grows (ProductOf bs) based m n below = val_product-grows bs based.1 m n below
  val-grows (MaximumOf bs) based m n below = val_maximum-grows bs based.1 m n below
  val-grows (PowerOf c e) based m n below = pow-le-pow_right based.0 (val-grows e based.1 m n below)

  -- the sum of bounds with such bases grows with its inputs
  pub val_sum-grows : (bs : Parts) → AreBased bs → (m n : List ℕ) → IsBelow m n → val_sum bs m ≤ val_sum bs n
  val_sum-grows NoParts based m n below = omega arith
  val_sum-grows (Part b bs) based m n below =
      omega (arith, val-grows b based.0 m n below, val_sum-grows bs based.1 m n below)

  -- the product of bounds with such bases grows with its inputs
  pub val_product-grows : (bs : Parts) → AreBased bs → (m n : List ℕ) → IsBelow m n
      → val_product bs m ≤ val_product bs n
  val_product-grows NoParts based m n below = omega arith
  val_product-grows (Part b bs) based m n below =
      mul-le-mul (val-grows b based.0 m n below) (val_product-grows bs based.1 m n below)

  -- the maximum of bounds with such bases grows with its inputs
  pub val_maximum-grows : (bs : Parts) → AreBased bs → (m n : List ℕ) → IsBelow m n
      → val_maximum bs m ≤ val_maximum bs n
  val_maximum-grows NoParts based m n below = omega arith
  val_maximum-grows (Part b bs) based m n below =
      omega (arith, val-grows b based.0 m n below, val_maximum-grows bs based.1 m n below)

-- each bound with such bases grows with its inputs
pub grows : GrowsWithInputs
grows = record { each = λ b based m n below. val-grows b based m n below }
