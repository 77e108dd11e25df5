-- Loops that multiply a bound out, and the sums of the numbers of the products that they make.
use Rattle.std.proofs.Common.{◌≡◌, ℕ, zero, suc, ◌+◌, ◌*◌, ◌<◌, ◌≤◌, max, List, [], ◌∷◌, ◌++◌, map, take, drop, get_or}
use Rattle.std.proofs.Common.{length, Option, Some, None, refl, ap, sym, ◌∙◌, subst, append_assoc, append-nil, arith}
use Rattle.std.proofs.Math.Nat.{mul-le-mul, mul-le-mul_left, mul-le-mul_right, le_trans}
use Rattle.std.proofs.lemmas.List.{drop_more, drop_all, map-append}
use Rattle.poly_terms.specs.model.Polynomials.{Polynomial}
use Rattle.signed_bounds.specs.Bounds as plain
use Rattle.signed_bounds.specs.Bounds.{Constant, PositivePart, SumOf, ProductOf, MaximumOf, MinimumOf, Quotient, Root}
use Rattle.signed_bounds.specs.Bounds.{PowerOf, SignedParts, NoParts, Part}
use Rattle.signed_bounds.specs.declared.signed.Signed.{Signed}
use Rattle.signed_bounds.specs.Views.{signed_of, signeds_of, parts_of}
use Rattle.signed_bounds.specs.Products as products
use Rattle.signed_bounds.specs.Products.{joined, multiplied, times_sum, number_sum, number_sum_of_sum}
use Rattle.signed_bounds.specs.Products.{number_sum_of_product, products_of, products_of_sum, multiplied_by_parts}
use Rattle.signed_bounds.specs.Products.{at_least_1, constant_part, part_or_number}
use Rattle.signed_within.specs.declared.product.Product.{Product}
use Rattle.signed_within.specs.Views.{product_of, products_at}

-- the parts from a position on
abbrev pub rest : List Signed → ℕ → SignedParts
rest xs i = parts_of (signeds_of (drop i xs))

-- the parts from a position on are the one at it and those after it
rest_more : (xs : List Signed) (i : ℕ) (x : Signed) → i < length xs → x ≡ get_or xs i x
    → rest xs i ≡ Part (signed_of x) (rest xs (i + 1))
rest_more xs i x h e =
    ap (λ (ys : List Signed). parts_of (signeds_of ys)) (drop_more xs i x h)
    ∙ ap (λ (y : Signed). plain.Part (signed_of y) (rest xs (i + 1))) (sym e)

-- no part is left at the end
rest_none : (xs : List Signed) (i : ℕ) → length xs ≤ i → rest xs i ≡ NoParts
rest_none xs i h = ap (λ (ys : List Signed). parts_of (signeds_of ys)) (drop_all i xs h)

-- the sum of the numbers of two lists of products is the sum of their sums
times_sum-append : (ps qs : List products.Product) → times_sum (ps ++ qs) ≡ times_sum ps + times_sum qs
times_sum-append [] qs = omega arith
times_sum-append (p ∷ ps) qs = omega (arith, times_sum-append ps qs)

-- the sum of the numbers of a product joined with each of a list is its number times the list's sum
times_sum-joined : (p : products.Product) (qs : List products.Product)
    → times_sum (map (joined p) qs) ≡ p.times * times_sum qs
times_sum-joined p [] = omega arith
times_sum-joined p (q ∷ qs) = omega (arith, times_sum-joined p qs)

-- the sum of the numbers of two multiplied lists is the product of their sums
times_sum-multiplied : (ps qs : List products.Product)
    → times_sum (multiplied ps qs) ≡ times_sum ps * times_sum qs
times_sum-multiplied [] qs = omega arith
times_sum-multiplied (p ∷ ps) qs =
    omega (
      arith,
      times_sum-append (map (joined p) qs) (multiplied ps qs),
      times_sum-joined p qs,
      times_sum-multiplied ps qs,
    )

-- a number that counts as at least 1 is at least 1
at_least_1-positive : (o : Option ℕ) → 1 ≤ at_least_1 o
at_least_1-positive None = omega arith
at_least_1-positive (Some n) = omega arith

-- the positive part of a polynomial as a product occurs at most as often as its number, or once
times_sum-part : (p : Polynomial) (o : Option ℕ) → times_sum (part_or_number p o ∷ []) ≤ at_least_1 o
times_sum-part p None = omega arith
times_sum-part p (Some n) = omega arith

mutual
  -- the bound on the sum of numbers is at least 1
  number_sum-positive : (b : plain.Signed) → 1 ≤ number_sum b
  number_sum-positive (Constant c) = omega arith
  number_sum-positive (PositivePart p) = at_least_1-positive (constant_part p)
  number_sum-positive (SumOf bs) = omega arith
  number_sum-positive (ProductOf bs) = number_sum_of_product-positive bs
  number_sum-positive (MaximumOf bs) = omega arith
  number_sum-positive (MinimumOf b bs) = omega arith
  number_sum-positive (Quotient b d) = omega arith
  number_sum-positive (Root b) = omega arith
  number_sum-positive (PowerOf c e) = omega arith

  number_sum_of_product-positive : (bs : SignedParts) → 1 ≤ number_sum_of_product bs
  number_sum_of_product-positive NoParts = omega arith
  number_sum_of_product-positive (Part b bs) =
      mul-le-mul (number_sum-positive b) (number_sum_of_product-positive bs)

mutual
  -- the sum of the numbers of a bound's products is at most `number_sum`
  pub times_sum-le : (b : plain.Signed) → times_sum (products_of b) ≤ number_sum b
  times_sum-le (Constant c) = omega arith
  times_sum-le (PositivePart p) = times_sum-part p (constant_part p)
  times_sum-le (SumOf bs) = omega (arith, times_sum_of_sum-le bs)
  times_sum-le (ProductOf bs) = omega (arith, times_sum_by_parts-le bs (products.number 1 ∷ []))
  times_sum-le (MaximumOf bs) = omega arith
  times_sum-le (MinimumOf b bs) = omega arith
  times_sum-le (Quotient b d) = omega arith
  times_sum-le (Root b) = omega arith
  times_sum-le (PowerOf c e) = omega arith

  times_sum_of_sum-le : (bs : SignedParts) → times_sum (products_of_sum bs) ≤ number_sum_of_sum bs
  times_sum_of_sum-le NoParts = omega arith
  times_sum_of_sum-le (Part b bs) =
      omega (arith, times_sum-append (products_of b) (products_of_sum bs), times_sum-le b, times_sum_of_sum-le bs)

  times_sum_by_parts-le : (bs : SignedParts) (ps : List products.Product)
      → times_sum (multiplied_by_parts bs ps) ≤ times_sum ps * number_sum_of_product bs
  times_sum_by_parts-le NoParts ps = omega arith
  times_sum_by_parts-le (Part b bs) ps =
      let whole = times_sum_by_parts-le bs (multiplied ps (products_of b)) in
      let first = times_sum-multiplied ps (products_of b) in
      let grown = mul-le-mul_left (times_sum ps) (times_sum-le b) in
      let last = mul-le-mul_right (number_sum_of_product bs) grown in
      omega (arith, ap (λ (v : ℕ). v * number_sum_of_product bs) first)

-- the number sum of a part of a sum is at most that of the sum
pub number_sum-at : (xs : List Signed) (i : ℕ) (x : Signed) → i < length xs → x ≡ get_or xs i x
    → number_sum (signed_of x) ≤ number_sum_of_sum (parts_of (signeds_of xs))
number_sum-at [] i x h e = absurd (omega arith)
number_sum-at (y ∷ ys) zero x h e =
    omega (arith, ap (λ (z : Signed). number_sum (signed_of z)) e)
number_sum-at (y ∷ ys) (suc i) x h e = omega (arith, number_sum-at ys i x (omega arith) e)

-- the number sum of a factor, and the numbers so far times it, are at most the limit that the factors left keep to
pub factor_limited : (xs : List Signed) (i : ℕ) (x : Signed) (so_far limit : ℕ) → i < length xs → x ≡ get_or xs i x
    → so_far * number_sum_of_product (rest xs i) ≤ limit
    → (so_far * number_sum (signed_of x)) * number_sum_of_product (rest xs (i + 1)) ≤ limit
factor_limited xs i x so_far limit h e k =
    omega (arith, ap (λ (ps : SignedParts). so_far * number_sum_of_product ps) (rest_more xs i x h e))

-- after one more part of a sum, the products so far and those of the parts left are all
pub sum-more : (xs : List Signed) (i : ℕ) (x : Signed) (done more : List Product) (all : List products.Product)
    → i < length xs → x ≡ get_or xs i x → products_at more ≡ products_of (signed_of x)
    → products_at done ++ products_of_sum (rest xs i) ≡ all
    → products_at (done ++ more) ++ products_of_sum (rest xs (i + 1)) ≡ all
sum-more xs i x done more all h e is k =
    ap (λ (ps : List products.Product). ps ++ products_of_sum (rest xs (i + 1))) (map-append product_of done more)
    ∙ append_assoc (products_at done) (products_at more) (products_of_sum (rest xs (i + 1)))
    ∙ ap (λ (ps : List products.Product). products_at done ++ (ps ++ products_of_sum (rest xs (i + 1)))) is
    ∙ sym (ap (λ (bs : SignedParts). products_at done ++ products_of_sum bs) (rest_more xs i x h e))
    ∙ k

-- if no part of a sum is left, the products so far are all
pub sum-none : (xs : List Signed) (i : ℕ) (done : List Product) (all : List products.Product) → length xs ≤ i
    → products_at done ++ products_of_sum (rest xs i) ≡ all → products_at done ≡ all
sum-none xs i done all h k =
    sym (append-nil (products_at done))
    ∙ sym (ap (λ (bs : SignedParts). products_at done ++ products_of_sum bs) (rest_none xs i h))
    ∙ k

-- after one more factor, the products so far times those of the factors left are all
pub product-more : (xs : List Signed) (i : ℕ) (x : Signed) (done more new : List Product) (all : List products.Product)
    → i < length xs → x ≡ get_or xs i x → products_at more ≡ products_of (signed_of x)
    → products_at new ≡ multiplied (products_at done) (products_at more)
    → multiplied_by_parts (rest xs i) (products_at done) ≡ all
    → multiplied_by_parts (rest xs (i + 1)) (products_at new) ≡ all
product-more xs i x done more new all h e is made k =
    ap (λ (ps : List products.Product). multiplied_by_parts (rest xs (i + 1)) ps)
    (made ∙ ap (λ (qs : List products.Product). multiplied (products_at done) qs) is)
    ∙ sym (ap (λ (bs : SignedParts). multiplied_by_parts bs (products_at done)) (rest_more xs i x h e))
    ∙ k

-- if no factor is left, the products so far are all
pub product-none : (xs : List Signed) (i : ℕ) (done : List Product) (all : List products.Product) → length xs ≤ i
    → multiplied_by_parts (rest xs i) (products_at done) ≡ all → products_at done ≡ all
product-none xs i done all h k =
    sym (ap (λ (bs : SignedParts). multiplied_by_parts bs (products_at done)) (rest_none xs i h)) ∙ k

-- the sum of the numbers of the products times a factor is at most the product of their number sums
pub product-times : (done more new : List Product) (b : plain.Signed)
    → products_at more ≡ products_of b → products_at new ≡ multiplied (products_at done) (products_at more)
    → times_sum (products_at new) ≤ times_sum (products_at done) * number_sum b
product-times done more new b is made =
    let whole = ap times_sum made ∙ times_sum-multiplied (products_at done) (products_at more) in
    let grown = mul-le-mul_left (times_sum (products_at done)) (times_sum-le b) in
    omega (arith, ap (λ (ps : List products.Product). times_sum (products_at done) * times_sum ps) is)

-- after one more factor, the numbers so far times those of the factors left keep to the limit
pub factors_limited : (xs : List Signed) (i : ℕ) (x : Signed) (so_far limit : ℕ) (more : List Product) → i < length xs
    → x ≡ get_or xs i x → products_at more ≡ products_of (signed_of x)
    → so_far * number_sum_of_product (rest xs i) ≤ limit
    → so_far * times_sum (products_at more) ≤ limit
factors_limited xs i x so_far limit more h e is k =
    let l = factor_limited xs i x so_far limit h e k in
    let least = mul-le-mul_left (so_far * number_sum (signed_of x)) (number_sum_of_product-positive (rest xs (i + 1))) in
    let grown = mul-le-mul_left so_far (times_sum-le (signed_of x)) in
    omega (arith, ap (λ (ps : List products.Product). so_far * times_sum ps) is)

-- the number of the product at a position is at most the sum of the numbers of all
pub times-at : (ps : List Product) (i : ℕ) (p : Product) → i < length ps → p ≡ get_or ps i p
    → p.times ≤ times_sum (products_at ps)
times-at [] i p h e = absurd (omega arith)
times-at (q ∷ qs) zero p h e = omega (arith, ap (λ (r : Product). r.times) e)
times-at (q ∷ qs) (suc i) p h e = omega (arith, times-at qs i p (omega arith) e)

-- the number sum of a factor is at most that of the whole product
pub number_sum-in_product : (xs : List Signed) (i : ℕ) (x : Signed) → i < length xs → x ≡ get_or xs i x
    → number_sum (signed_of x) ≤ number_sum_of_product (parts_of (signeds_of xs))
number_sum-in_product [] i x h e = absurd (omega arith)
number_sum-in_product (y ∷ ys) zero x h e =
    let least = mul-le-mul_left (number_sum (signed_of y)) (number_sum_of_product-positive (parts_of (signeds_of ys))) in
    omega (arith, ap (λ (z : Signed). number_sum (signed_of z)) e)
number_sum-in_product (y ∷ ys) (suc i) x h e =
    let later = number_sum-in_product ys i x (omega arith) e in
    let least = mul-le-mul_right (number_sum_of_product (parts_of (signeds_of ys))) (number_sum-positive (signed_of y)) in
    omega arith

-- a loop over products that appends products for each: the next one
pub products-more : (F : List products.Product → List products.Product) (f : products.Product → List products.Product)
    → ((q : products.Product) (qs : List products.Product) → F (q ∷ qs) ≡ f q ++ F qs)
    → (qs : List Product) (i : ℕ) (q : Product) (done new : List Product) (all : List products.Product)
    → i < length qs → q ≡ get_or qs i q → products_at new ≡ products_at done ++ f (product_of q)
    → products_at done ++ F (products_at (drop i qs)) ≡ all
    → products_at new ++ F (products_at (drop (i + 1) qs)) ≡ all
products-more F f step qs i q done new all h e made k =
    let behind = F (products_at (drop (i + 1) qs)) in
    let left : F (products_at (drop i qs)) ≡ f (product_of q) ++ behind =
    ap (λ (ps : List Product). F (products_at ps)) (drop_more qs i q h)
    ∙ step (product_of (get_or qs i q)) (products_at (drop (i + 1) qs))
    ∙ sym (ap (λ (r : Product). f (product_of r) ++ behind) e) in
    ap (λ (ps : List products.Product). ps ++ behind) made
    ∙ append_assoc (products_at done) (f (product_of q)) behind
    ∙ sym (ap (λ (ps : List products.Product). products_at done ++ ps) left)
    ∙ k

-- a loop over products that appends products for each: the end
pub products-none : (F : List products.Product → List products.Product) → F [] ≡ []
    → (qs : List Product) (i : ℕ) (done : List Product) (all : List products.Product) → length qs ≤ i
    → products_at done ++ F (products_at (drop i qs)) ≡ all → products_at done ≡ all
products-none F empty qs i done all h k =
    sym (append-nil (products_at done))
    ∙ sym (ap (λ (ps : List products.Product). products_at done ++ ps)
    (ap (λ (ps : List Product). F (products_at ps)) (drop_all i qs h) ∙ empty))
    ∙ k

-- pushing a product appends it to the plain products
pub products-push : (done : List Product) (new : Product) (p : products.Product) → product_of new ≡ p
    → products_at (done ++ new ∷ []) ≡ products_at done ++ p ∷ []
products-push done new p e =
    map-append product_of done (new ∷ []) ∙ ap (λ (q : products.Product). products_at done ++ q ∷ []) e
