-- Sums of products from which a quotient among them is taken out.
use Rattle.std.proofs.Common.{◌≡◌, ℕ, zero, suc, ◌+◌, ◌-◌, ◌*◌, ◌<◌, ◌≤◌, Bool, true, false, List, [], ◌∷◌, ◌++◌, map, take, drop}
use Rattle.std.proofs.Common.{get_or, length, Option, Some, None, refl, ap, sym, ◌∙◌, append_assoc, arith}
use Rattle.std.specs.Prelude.{◌&&◌, ◌||◌, nat_le}
use Rattle.std.proofs.Math.Nat.{mul-le-mul_left, mul-le-mul_right}
use Rattle.std.proofs.lemmas.List.{drop_more, take_more, take_all, length-drop, map-append}
use Rattle.std.proofs.lemmas.Bool.{leb-true}
use Rattle.signed_bounds.specs.Bounds as plain
use Rattle.signed_bounds.specs.Safe.{expands_to_squares}
use Rattle.signed_bounds.specs.Limits.{constant_limit}
use Rattle.signed_bounds.specs.Products as products
use Rattle.signed_bounds.specs.Products.{times_sum, scaled, products_of, number_sum, is_expandable, is_multipliable}
use Rattle.signed_bounds.specs.Covers.{covers}
use Rattle.signed_bounds.specs.Within.{numerator, once_less, is_covered_with_numerator, is_covered_by_quotient}
use denote.Ref.{Bor}
use Rattle.signed_bounds.specs.declared.signed.Signed.{Signed}
use Rattle.signed_within.specs.declared.product.Product.{Product}
use Rattle.signed_within.specs.Views.{signed_at, product_of, products_at}
use Rattle.signed_within.specs.Numerators.{is_covered_at}
use Rattle.signed_within.proofs.ProductLoops.{times-at, times_sum-le}

-- the products before a position, and those after it, occur at most as often as all
times-take : (qs : List Product) (i : ℕ) → times_sum (products_at (take i qs)) ≤ times_sum (products_at qs)
times-take [] zero = omega arith
times-take [] (suc i) = omega arith
times-take (q ∷ qs) zero = omega arith
times-take (q ∷ qs) (suc i) = omega (arith, times-take qs i)

times-drop : (qs : List Product) (i : ℕ) → times_sum (products_at (drop i qs)) ≤ times_sum (products_at qs)
times-drop [] zero = omega arith
times-drop [] (suc i) = omega arith
times-drop (q ∷ qs) zero = omega arith
times-drop (q ∷ qs) (suc i) = omega (arith, times-drop qs i)

-- den times a lesser number is within a limit if den times the greater is
scaled-le : (den a b limit : ℕ) → a ≤ b → den * b ≤ limit → den * a ≤ limit
scaled-le den a b limit h k = omega (arith, mul-le-mul_left den h)

pub before-limited : (den : ℕ) (qs : List Product) (i : ℕ) → den * times_sum (products_at qs) ≤ constant_limit
    → den * times_sum (products_at (take i qs)) ≤ constant_limit
before-limited den qs i h =
    scaled-le den (times_sum (products_at (take i qs))) (times_sum (products_at qs)) constant_limit (times-take qs i) h

pub one-limited : (den : ℕ) (qs : List Product) (i : ℕ) (q : Product) → i < length qs → q ≡ get_or qs i q
    → den * times_sum (products_at qs) ≤ constant_limit → den * q.times ≤ constant_limit
one-limited den qs i q low e h =
    scaled-le den q.times (times_sum (products_at qs)) constant_limit (times-at qs i q low e) h

-- the products after a position as a part of the list
pub rest-behind : (qs : List Product) (i : ℕ) → take (length qs - (i + 1)) (drop (i + 1) qs) ≡ drop (i + 1) qs
rest-behind qs i = take_all (length qs - (i + 1)) (drop (i + 1) qs) (omega (arith, length-drop (i + 1) qs))

pub behind-limited : (den : ℕ) (qs : List Product) (i : ℕ) → den * times_sum (products_at qs) ≤ constant_limit
    → den * times_sum (products_at (take (length qs - (i + 1)) (drop (i + 1) qs))) ≤ constant_limit
behind-limited den qs i h =
    rw (rest-behind qs i) (scaled-le den (times_sum (products_at (drop (i + 1) qs))) (times_sum (products_at qs))
    constant_limit (times-drop qs (i + 1)) h)

-- scaling two lists joined joins them scaled
scaled-append : (den : ℕ) (ps qs : List products.Product) → scaled den (ps ++ qs) ≡ scaled den ps ++ scaled den qs
scaled-append den [] qs = refl
scaled-append den (p ∷ ps) qs =
    ap (λ (rs : List products.Product). record { times = den * p.times; factors = p.factors } ∷ rs) (scaled-append den ps qs)

-- the numerator's products, and den times the products before the position, the one at it once less, and those after it
pub others-made : (den : ℕ) (qs : List Product) (i : ℕ) (q less : Product) (b : plain.Signed)
    (first second third fourth : List Product) → products_at first ≡ products_of b
    → products_at second ≡ products_at first ++ scaled den (products_at (take i qs))
    → third ≡ second ++ less ∷ [] → less.times ≡ den * (q.times - 1) → less.factors.items ≡ q.factors.items
    → products_at fourth
    ≡ products_at third ++ scaled den (products_at (take (length qs - (i + 1)) (drop (i + 1) qs)))
    → products_at fourth ≡ products_of b
    ++ scaled den (products_at (take i qs) ++ once_less (product_of q) ∷ products_at (drop (i + 1) qs))
others-made den qs i q less b first second third fourth made before pushed times factors behind =
    let back = scaled den (products_at (drop (i + 1) qs)) in
    let one : product_of less ≡ record { times = den * (q.times - 1); factors = (product_of q).factors } =
    ap (λ (n : ℕ). record { times = n; factors = (product_of less).factors }) times
    ∙ ap (λ (fs : List (Bor Signed)). record { times = den * (q.times - 1); factors = signed_at fs }) factors in
    behind
    ∙ ap (λ (rs : List Product). products_at third ++ scaled den (products_at rs)) (rest-behind qs i)
    ∙ ap (λ (rs : List Product). products_at rs ++ back) pushed
    ∙ ap (λ (rs : List products.Product). rs ++ back) (map-append product_of second (less ∷ []))
    ∙ ap (λ (rs : List products.Product). (rs ++ product_of less ∷ []) ++ back)
    (before ∙ ap (λ (rs : List products.Product). rs ++ scaled den (products_at (take i qs))) made)
    ∙ append_assoc (products_of b ++ scaled den (products_at (take i qs))) (product_of less ∷ []) back
    ∙ append_assoc (products_of b) (scaled den (products_at (take i qs))) (product_of less ∷ back)
    ∙ ap (λ (p : products.Product). products_of b ++ (scaled den (products_at (take i qs)) ++ p ∷ back)) one
    ∙ ap (λ (rs : List products.Product). products_of b ++ rs)
    (sym (scaled-append den (products_at (take i qs)) (once_less (product_of q) ∷ products_at (drop (i + 1) qs))))

-- any function of the products from a position on is the same function of the one at it and those after it
at-place : {A : Type 0} (f : List products.Product → A) (qs : List Product) (i : ℕ) (q : Product) → i < length qs
    → q ≡ get_or qs i q → f (products_at (drop i qs)) ≡ f (product_of q ∷ products_at (drop (i + 1) qs))
at-place f qs i q low e =
    ap (λ (rs : List Product). f (products_at rs)) (drop_more qs i q low)
    ∙ ap (λ (r : Product). f (product_of r ∷ products_at (drop (i + 1) qs))) (sym e)

-- a product that is no such quotient, or whose numerator isn't multiplied out, covers nothing
pub at-none : (den : ℕ) (ps : List products.Product) (qs : List Product) (i : ℕ) (q : Product) → i < length qs
    → q ≡ get_or qs i q → numerator den (product_of q).times (product_of q).factors ≡ None
    → false ≡ is_covered_at den ps (products_at (take i qs)) (products_at (drop i qs))
at-none den ps qs i q low e h =
    sym (at-place (is_covered_at den ps (products_at (take i qs))) qs i q low e
    ∙ ap (λ (o : Option plain.Signed). is_covered_with_numerator expands_to_squares den ps o
    (products_at (take i qs) ++ once_less (product_of q) ∷ products_at (drop (i + 1) qs))) h)

pub at-some : (den : ℕ) (ps : List products.Product) (qs : List Product) (i : ℕ) (q : Product) (b : plain.Signed) (v : Bool)
    → i < length qs → q ≡ get_or qs i q → numerator den (product_of q).times (product_of q).factors ≡ Some b
    → is_multipliable 1 b ≡ v
    → is_covered_at den ps (products_at (take i qs)) (products_at (drop i qs))
    ≡ (v && covers expands_to_squares ps (products_of b
    ++ scaled den (products_at (take i qs) ++ once_less (product_of q) ∷ products_at (drop (i + 1) qs))))
at-some den ps qs i q b v low e h m =
    let others = products_at (take i qs) ++ once_less (product_of q) ∷ products_at (drop (i + 1) qs) in
    at-place (is_covered_at den ps (products_at (take i qs))) qs i q low e
    ∙ ap (λ (o : Option plain.Signed). is_covered_with_numerator expands_to_squares den ps o others) h
    ∙ ap (λ (t : Bool). t && covers expands_to_squares ps (products_of b ++ scaled den others)) m

-- the first quotient decides, or else the products after it
pub quotient-step : (den : ℕ) (ps : List products.Product) (qs : List Product) (i : ℕ) (v : Bool) → i < length qs
    → v ≡ is_covered_at den ps (products_at (take i qs)) (products_at (drop i qs))
    → is_covered_by_quotient expands_to_squares den ps (products_at (take i qs)) (products_at (drop i qs))
    ≡ (v || is_covered_by_quotient expands_to_squares den ps (products_at (take (i + 1) qs)) (products_at (drop (i + 1) qs)))
quotient-step den ps [] i v low h = absurd (omega arith)
quotient-step den ps (x ∷ xs) i v low h = go (get_or (x ∷ xs) i x) refl
  where
    go : (q : Product) → get_or (x ∷ xs) i x ≡ q
        → is_covered_by_quotient expands_to_squares den ps (products_at (take i (x ∷ xs))) (products_at (drop i (x ∷ xs)))
        ≡ (v || is_covered_by_quotient expands_to_squares den ps (products_at (take (i + 1) (x ∷ xs)))
        (products_at (drop (i + 1) (x ∷ xs))))
    go q e =
        let qs = x ∷ xs in
        let here : drop i qs ≡ q ∷ drop (i + 1) qs =
        drop_more qs i x low ∙ ap (λ (r : Product). r ∷ drop (i + 1) qs) e in
        let before : products_at (take i qs) ++ product_of q ∷ [] ≡ products_at (take (i + 1) qs) =
        sym (ap products_at (take_more qs i x low ∙ ap (λ (r : Product). take i qs ++ r ∷ []) e)
        ∙ map-append product_of (take i qs) (q ∷ [])) in
        let own : v ≡ is_covered_at den ps (products_at (take i qs)) (product_of q ∷ products_at (drop (i + 1) qs)) =
        h ∙ ap (λ (rs : List Product). is_covered_at den ps (products_at (take i qs)) (products_at rs)) here in
        ap (λ (rs : List Product). is_covered_by_quotient expands_to_squares den ps (products_at (take i qs)) (products_at rs)) here
        ∙ ap (λ (t : Bool). t || is_covered_by_quotient expands_to_squares den ps (products_at (take i qs)
        ++ product_of q ∷ []) (products_at (drop (i + 1) qs))) (sym own)
        ∙ ap (λ (rs : List products.Product). v || is_covered_by_quotient expands_to_squares den ps rs
        (products_at (drop (i + 1) qs))) before

second-true : (v w : Bool) → (v && w) ≡ true → w ≡ true
second-true true w h = h
second-true false w h = absurd (apart h)
  where
    apart : false ≡ true → ⊥
    apart k = cc

-- the numbers of a bound that is multiplied out within the limits, times n, are at most the limit
pub times-limited : (n : ℕ) (b : plain.Signed) → is_multipliable n b ≡ true → n * number_sum b ≤ constant_limit
times-limited n b h =
    leb-true (n * number_sum b) constant_limit
    (second-true (is_expandable b) (nat_le (n * number_sum b) constant_limit) h)

pub number-limited : (n : ℕ) (b : plain.Signed) → 1 ≤ n → is_multipliable n b ≡ true → number_sum b ≤ constant_limit
number-limited n b low h = omega (arith, mul-le-mul_right (number_sum b) low, times-limited n b h)

-- the products of such a bound, scaled by n, have numbers within the limit
pub products-limited : (n : ℕ) (b : plain.Signed) (qs : List Product) → is_multipliable n b ≡ true
    → products_at qs ≡ products_of b → n * times_sum (products_at qs) ≤ constant_limit
products-limited n b qs h made =
    scaled-le n (times_sum (products_at qs)) (number_sum b) constant_limit
    (omega (arith, ap times_sum made, times_sum-le b)) (times-limited n b h)
