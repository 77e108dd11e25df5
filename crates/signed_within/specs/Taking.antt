-- The numbers left of products after others were taken from them.
use Rattle.std.specs.Prelude.{◌≡◌, ℕ, ◌<◌, List, length, set, Option, Some, None, Vec}
use Rattle.std.specs.declared.alloc.Global.{Global}
use Rattle.signed_bounds.specs.Bounds as plain
use Rattle.signed_bounds.specs.Safe.{expands_to_squares}
use Rattle.signed_bounds.specs.Products as products
use Rattle.signed_bounds.specs.Covers.{missing_times, used_up, missing_products, all_used_up, used_whole, without_product}
use Rattle.signed_within.specs.declared.product.Product.{Product}
use Rattle.signed_within.specs.declared.test.Test.{Test}
use Rattle.signed_within.specs.declared.test.Test.TheVariants.{Equal}
use Rattle.signed_within.specs.Tests.{lists_match}
use Rattle.signed_within.specs.Views.{products_at, counted}

-- n times the factors were taken from the products that pass the test, as far as they suffice
pub record IsUsedUp (test : Test) (n : ℕ) (fs : List plain.Signed) (qs : List Product) (old new : List ℕ) (missing : ℕ) : Type 0 where
  pub left : counted qs new ≡ used_up (lists_match test) n fs (counted qs old)
  pub lacking : missing ≡ missing_times (lists_match test) n fs (counted qs old)
  pub size : length new ≡ length qs

-- equal products were taken in both lists
pub record AreEqualUsed (ps qs : List Product) (missing left : List ℕ) : Type 0 where
  pub lacking : counted ps missing ≡ missing_products (lists_match Equal) (products_at ps) (products_at qs)
  pub rest : counted qs left ≡ all_used_up (lists_match Equal) (products_at ps) (products_at qs)
  pub lacking_size : length missing ≡ length ps
  pub rest_size : length left ≡ length qs

-- the numbers left are those of the definition's result
abbrev pub IsLeft : List Product → Option (List products.Product) → Option (Vec ℕ Global) → Type 0
IsLeft qs o None = o ≡ None
IsLeft qs o (Some new) = (o ≡ Some (counted qs new.items)) × (length new.items ≡ length qs)

-- the first product that as a whole is at least n times the factors was used up
abbrev pub IsWithoutWhole : ℕ → List plain.Signed → List Product → List ℕ → Option (Vec ℕ Global) → Type 0
IsWithoutWhole n fs qs old o =
    IsLeft qs (used_whole expands_to_squares (record { times = n; factors = fs }) (counted qs old)) o

-- n times the factors were taken from the products, or a product that as a whole is at least them was used up
abbrev pub IsWithoutProduct : ℕ → List plain.Signed → List Product → List ℕ → Option (Vec ℕ Global) → Type 0
IsWithoutProduct n fs qs old o =
    IsLeft qs (without_product expands_to_squares (record { times = n; factors = fs }) (counted qs old)) o

-- no product as a whole is at least n times the factors; or the one at the position is the first that is, and was used
-- up
abbrev pub IsWholeAt : ℕ → List plain.Signed → List Product → List ℕ → Option ℕ → Type 0
IsWholeAt n fs qs old None = used_whole expands_to_squares (record { times = n; factors = fs }) (counted qs old) ≡ None
IsWholeAt n fs qs old (Some i) =
    (i < length qs)
    × (used_whole expands_to_squares (record { times = n; factors = fs }) (counted qs old) ≡ Some (counted qs (set old i 0)))
