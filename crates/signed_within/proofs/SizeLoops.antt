-- Loops over parts that add or multiply numbers up to a limit.
use Rattle.std.proofs.Common.{◌≡◌, ℕ, zero, suc, ◌+◌, ◌*◌, ◌-◌, ◌^◌, ◌<◌, ◌≤◌, min, max, Bool, true, false, List, get_or}
use Rattle.std.proofs.Common.{length, refl, ap, sym, ◌∙◌, inl, inr, arith}
use Rattle.std.specs.Prelude.{nat_le}
use Rattle.std.proofs.Math.Nat.{mul-le-mul}
use Rattle.std.proofs.lemmas.Bool.{cases_lt, leb-true, leb-false}
use Rattle.signed_bounds.specs.Bounds as plain
use Rattle.signed_bounds.specs.Bounds.{SignedParts, NoParts, Part}
use Rattle.signed_bounds.specs.declared.signed.Signed.{Signed}
use Rattle.signed_bounds.specs.Views.{signed_of, with_part}
use Rattle.signed_bounds.specs.Limits.{constant_limit, product_limit, expansion_limit, comparison_limit}
use Rattle.signed_bounds.specs.Products.{product_count, product_count_of_sum, product_count_of_product}
use Rattle.signed_bounds.specs.Products.{number_sum, number_sum_of_sum, number_sum_of_product}
use Rattle.signed_bounds.proofs.PartLoops.{before, parts_of-take_more}

-- a capped factor on the right changes nothing
min-mul_right : (a b limit : ℕ) → min (a * min b limit) limit ≡ min (a * b) limit
min-mul_right zero b limit = omega arith
min-mul_right (suc a) b limit =
    elim (cases_lt limit b) [
      | inr h ↦ ap (λ (v : ℕ). min (suc a * v) limit) (let e : min b limit ≡ b = omega arith in e)
      | inl h ↦ omega (arith, times 1 limit (suc a) (min b limit) (omega arith) (omega arith), times 1 b (suc a) b (omega arith) (omega arith))
    ]
  where
    times : (a b c d : ℕ) → a ≤ c → b ≤ d → a * b ≤ c * d
    times a b c d = mul-le-mul

-- capped factors change nothing
min-mul : (a b limit : ℕ) → min (min a limit * min b limit) limit ≡ min (a * b) limit
min-mul a b limit =
    min-mul_right (min a limit) b limit
    ∙ ap (λ (v : ℕ). min v limit) (omega arith)
    ∙ min-mul_right b a limit
    ∙ ap (λ (v : ℕ). min v limit) (omega arith)

-- adding one more number, up to a limit
sum-step : (f : SignedParts → ℕ) (g : plain.Signed → ℕ)
    → ((bs : SignedParts) (b : plain.Signed) → f (with_part bs b) ≡ f bs + g b)
    → (xs : List Signed) (i : ℕ) (x : Signed) (so_far here after limit : ℕ) → i < length xs → x ≡ get_or xs i x
    → so_far ≡ min (f (before xs i)) limit → here ≡ min (g (signed_of x)) limit → after ≡ min (so_far + here) limit
    → after ≡ min (f (before xs (i + 1))) limit
sum-step f g more xs i x so_far here after limit h e is_before is_here is_after =
    omega (arith, ap f (parts_of-take_more xs i x h e), more (before xs i) (signed_of x))

-- multiplying by one more number, up to a limit
product-step : (f : SignedParts → ℕ) (g : plain.Signed → ℕ)
    → ((bs : SignedParts) (b : plain.Signed) → f (with_part bs b) ≡ f bs * g b)
    → (xs : List Signed) (i : ℕ) (x : Signed) (so_far here after limit : ℕ) → i < length xs → x ≡ get_or xs i x
    → so_far ≡ min (f (before xs i)) limit → here ≡ min (g (signed_of x)) limit → after ≡ min (so_far * here) limit
    → after ≡ min (f (before xs (i + 1))) limit
product-step f g more xs i x so_far here after limit h e is_before is_here is_after =
    is_after
    ∙ ap (λ (v : ℕ). min (v * here) limit) is_before
    ∙ ap (λ (v : ℕ). min (min (f (before xs i)) limit * v) limit) is_here
    ∙ min-mul (f (before xs i)) (g (signed_of x)) limit
    ∙ ap (λ (v : ℕ). min v limit) (sym (ap f (parts_of-take_more xs i x h e) ∙ more (before xs i) (signed_of x)))

-- one more part of a sum adds its products
count_sum-more : (bs : SignedParts) (b : plain.Signed)
    → product_count_of_sum (with_part bs b) ≡ product_count_of_sum bs + product_count b
count_sum-more NoParts b = omega arith
count_sum-more (Part c cs) b = omega (arith, count_sum-more cs b)

-- one more factor multiplies the products
count_product-more : (bs : SignedParts) (b : plain.Signed)
    → product_count_of_product (with_part bs b) ≡ product_count_of_product bs * product_count b
count_product-more NoParts b = omega arith
count_product-more (Part c cs) b = omega (arith, ap (λ (v : ℕ). product_count c * v) (count_product-more cs b))

-- one more part of a sum adds its numbers
number_sum-more : (bs : SignedParts) (b : plain.Signed)
    → number_sum_of_sum (with_part bs b) ≡ number_sum_of_sum bs + number_sum b
number_sum-more NoParts b = omega arith
number_sum-more (Part c cs) b = omega (arith, number_sum-more cs b)

-- one more factor multiplies the sum of numbers
number_product-more : (bs : SignedParts) (b : plain.Signed)
    → number_sum_of_product (with_part bs b) ≡ number_sum_of_product bs * number_sum b
number_product-more NoParts b = omega arith
number_product-more (Part c cs) b = omega (arith, ap (λ (v : ℕ). number_sum c * v) (number_product-more cs b))

-- the steps of the four loops, up to a limit
pub count_sum-step : (xs : List Signed) (i : ℕ) (x : Signed) (so_far here after limit : ℕ) → i < length xs
    → x ≡ get_or xs i x → so_far ≡ min (product_count_of_sum (before xs i)) limit
    → here ≡ min (product_count (signed_of x)) limit → after ≡ min (so_far + here) limit
    → after ≡ min (product_count_of_sum (before xs (i + 1))) limit
count_sum-step = sum-step product_count_of_sum product_count count_sum-more

pub count_product-step : (xs : List Signed) (i : ℕ) (x : Signed) (so_far here after limit : ℕ) → i < length xs
    → x ≡ get_or xs i x → so_far ≡ min (product_count_of_product (before xs i)) limit
    → here ≡ min (product_count (signed_of x)) limit → after ≡ min (so_far * here) limit
    → after ≡ min (product_count_of_product (before xs (i + 1))) limit
count_product-step = product-step product_count_of_product product_count count_product-more

pub number_sum-step : (xs : List Signed) (i : ℕ) (x : Signed) (so_far here after limit : ℕ) → i < length xs
    → x ≡ get_or xs i x → so_far ≡ min (number_sum_of_sum (before xs i)) limit
    → here ≡ min (number_sum (signed_of x)) limit → after ≡ min (so_far + here) limit
    → after ≡ min (number_sum_of_sum (before xs (i + 1))) limit
number_sum-step = sum-step number_sum_of_sum number_sum number_sum-more

pub number_product-step : (xs : List Signed) (i : ℕ) (x : Signed) (so_far here after limit : ℕ) → i < length xs
    → x ≡ get_or xs i x → so_far ≡ min (number_sum_of_product (before xs i)) limit
    → here ≡ min (number_sum (signed_of x)) limit → after ≡ min (so_far * here) limit
    → after ≡ min (number_sum_of_product (before xs (i + 1))) limit
number_product-step = product-step number_sum_of_product number_sum number_product-more

-- two comparisons of numbers that imply each other have the same result
tests_agree : (a b c d : ℕ) → (a ≤ b → c ≤ d) → (c ≤ d → a ≤ b) → nat_le a b ≡ nat_le c d
tests_agree a b c d to back = go (nat_le a b) refl (nat_le c d) refl
  where
    above : (a b : ℕ) → b < a → a ≤ b → ⊥
    above a b h k = omega arith

    go : (t : Bool) → nat_le a b ≡ t → (s : Bool) → nat_le c d ≡ s → t ≡ s
    go true e true k = refl
    go false e false k = refl
    go true e false k = absurd (above c d (leb-false c d k) (to (leb-true a b e)))
    go false e true k = absurd (above a b (leb-false a b e) (back (leb-true c d k)))

-- a capped number is at most a limit below the cap exactly if the number is
pub count_test : (count capped : ℕ) → capped ≡ min count (2 ^ 64 - 1)
    → nat_le capped product_limit ≡ nat_le count product_limit
count_test count capped e = tests_agree capped product_limit count product_limit (λ h. omega arith) (λ h. omega arith)

-- a product of two numbers, each capped past the limit, is at most the limit exactly if their product is
pub pair_test : (a b capped other product : ℕ) → capped ≡ min a (comparison_limit + 1)
    → other ≡ min b (comparison_limit + 1) → product ≡ min (capped * other) (2 ^ 64 - 1)
    → nat_le product comparison_limit ≡ nat_le (a * b) comparison_limit
pair_test a b capped other product e f h =
    tests_agree product comparison_limit (a * b) comparison_limit
    (λ k. omega (arith, whole))
    (λ k. omega (arith, whole))
  where
    capped_twice : (x y z : ℕ) → z ≡ min x (2 ^ 64 - 1) → min x (comparison_limit + 1) ≡ min y (comparison_limit + 1)
        → min z (comparison_limit + 1) ≡ min y (comparison_limit + 1)
    capped_twice x y z is same = omega arith

    whole : min product (comparison_limit + 1) ≡ min (a * b) (comparison_limit + 1)
    whole =
        capped_twice (capped * other) (a * b) product h
        (ap (λ (v : ℕ). min (v * other) (comparison_limit + 1)) e
        ∙ ap (λ (v : ℕ). min (min a (comparison_limit + 1) * v) (comparison_limit + 1)) f
        ∙ min-mul a b (comparison_limit + 1))

-- the product of two capped numbers, capped, is at most the limit exactly if the product of the numbers is
pub expansion_test : (count nodes capped other product : ℕ) → capped ≡ min count (2 ^ 64 - 1)
    → other ≡ min nodes (2 ^ 64 - 1) → product ≡ min (capped * other) (2 ^ 64 - 1)
    → nat_le product expansion_limit ≡ nat_le (count * nodes) expansion_limit
expansion_test count nodes capped other product e f h =
    tests_agree product expansion_limit (count * nodes) expansion_limit
    (λ k. omega (arith, whole))
    (λ k. omega (arith, whole))
  where
    whole : product ≡ min (count * nodes) (2 ^ 64 - 1)
    whole =
        h
        ∙ ap (λ (v : ℕ). min (v * other) (2 ^ 64 - 1)) e
        ∙ ap (λ (v : ℕ). min (min count (2 ^ 64 - 1) * v) (2 ^ 64 - 1)) f
        ∙ min-mul count nodes (2 ^ 64 - 1)

-- a capped sum times a number, capped, is at most the limit exactly if the product of the numbers is
pub sum_test : (sum times capped product : ℕ) → capped ≡ min sum (2 ^ 128 - 1)
    → product ≡ min (capped * times) (2 ^ 128 - 1)
    → nat_le product constant_limit ≡ nat_le (times * sum) constant_limit
sum_test sum times capped product e f =
    tests_agree product constant_limit (times * sum) constant_limit
    (λ h. omega (arith, whole))
    (λ h. omega (arith, whole))
  where
    swap : (a b : ℕ) → a * b ≡ b * a
    swap a b = omega arith

    whole : product ≡ min (times * sum) (2 ^ 128 - 1)
    whole =
        f
        ∙ ap (λ (v : ℕ). min (v * times) (2 ^ 128 - 1)) e
        ∙ ap (λ (v : ℕ). min v (2 ^ 128 - 1)) (swap (min sum (2 ^ 128 - 1)) times)
        ∙ min-mul_right times sum (2 ^ 128 - 1)
