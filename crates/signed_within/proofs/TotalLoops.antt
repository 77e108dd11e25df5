-- Loops that measure sums of products, and that count quotients among them.
use Rattle.std.proofs.Common.{◌≡◌, ℕ, zero, suc, ◌+◌, ◌-◌, ◌^◌, ◌<◌, ◌≤◌, min, Bool, true, false, List, [], ◌∷◌, take, drop}
use Rattle.std.proofs.Common.{get_or, length, Option, Some, None, refl, ap, sym, ◌∙◌, add-one, arith}
use Rattle.std.proofs.lemmas.List.{take_all, drop_more, drop_all}
use denote.Ref.{Bor}
use Rattle.signed_bounds.specs.Bounds as plain
use Rattle.signed_bounds.specs.Bounds.{SignedParts, NoParts, Part, Constant, PositivePart, SumOf, ProductOf, MaximumOf}
use Rattle.signed_bounds.specs.Bounds.{MinimumOf, Quotient, Root, PowerOf}
use Rattle.signed_bounds.specs.declared.signed.Signed.{Signed}
use Rattle.signed_bounds.specs.Views.{signed_of, signeds_of, parts_of}
use Rattle.signed_bounds.specs.Limits.{comparison_limit}
use Rattle.signed_bounds.specs.Measure.{node_count}
use Rattle.signed_bounds.specs.Products.{factor_nodes, factor_total}
use Rattle.signed_bounds.specs.Covers.{is_below_constant}
use Rattle.signed_bounds.specs.Within.{numerator, quotient_count}
use Rattle.std.specs.Prelude.{◌||◌, ◌*◌, nat_le}
use Rattle.signed_within.specs.declared.product.Product.{Product}
use Rattle.signed_within.specs.Views.{signed_at, product_of, products_at}
use Rattle.signed_within.proofs.Positions.{signed_at-get, signed_at-length}

-- one more factor adds its nodes, up to a limit
nodes-more : (fs : List plain.Signed) (i : ℕ) (f : plain.Signed) → i < length fs → get_or fs i f ≡ f
    → factor_nodes (take (suc i) fs) ≡ factor_nodes (take i fs) + node_count f
nodes-more [] i f h e = absurd (omega arith)
nodes-more (g ∷ fs) zero f h e = omega (arith, ap node_count e)
nodes-more (g ∷ fs) (suc i) f h e = omega (arith, nodes-more fs i f (omega arith) e)

pub nodes-step : (rs : List (Bor Signed)) (i : ℕ) (r : Bor Signed) (nodes here after limit : ℕ) → i < length rs
    → r ≡ get_or rs i r → nodes ≡ min (factor_nodes (take i (signed_at rs))) limit
    → here ≡ min (node_count (signed_of r.now)) limit → after ≡ min (nodes + here) limit
    → after ≡ min (factor_nodes (take (i + 1) (signed_at rs))) limit
nodes-step rs i r nodes here after limit h e is_nodes is_here is_after =
    let inside : i < length (signed_at rs) = omega (arith, signed_at-length rs) in
    let next = ap (λ (k : ℕ). factor_nodes (take k (signed_at rs))) (add-one i) in
    let more = nodes-more (signed_at rs) i (signed_of r.now) inside (signed_at-get rs i r h e) in
    omega (arith, next, more)

-- after all factors, the nodes are those of all, up to a limit
pub nodes-all : (rs : List (Bor Signed)) (i nodes limit : ℕ) → length rs ≤ i
    → nodes ≡ min (factor_nodes (take i (signed_at rs))) limit → nodes ≡ min (factor_nodes (signed_at rs)) limit
nodes-all rs i nodes limit h e =
    e
    ∙ ap (λ (fs : List plain.Signed). min (factor_nodes fs) limit)
    (take_all i (signed_at rs) (omega (arith, signed_at-length rs)))

-- the size of the products passed and of those from a place on is that of all, and no more than the limit so far
pub record IsTotalSoFar (ps : List Product) (i total : ℕ) : Type 0 where
  pub whole : total + factor_total (products_at (drop i ps)) ≡ factor_total (products_at ps)
  pub low : total ≤ comparison_limit

-- the size of the products from a position on is that of the one at it and of those after it
total-more : (ps : List Product) (i : ℕ) (p : Product) → i < length ps → p ≡ get_or ps i p
    → factor_total (products_at (drop i ps))
    ≡ (1 + factor_nodes (product_of p).factors) + factor_total (products_at (drop (i + 1) ps))
total-more ps i p h e =
    ap (λ (qs : List Product). factor_total (products_at qs)) (drop_more ps i p h)
    ∙ ap (λ (q : Product). factor_total (product_of q ∷ products_at (drop (i + 1) ps))) (sym e)

-- one more product adds its size, if the limit isn't passed
pub total-step : (ps : List Product) (i : ℕ) (p : Product) (total here after : ℕ) → i < length ps
    → p ≡ get_or ps i p → IsTotalSoFar ps i total → here ≡ min (1 + factor_nodes (product_of p).factors) (2 ^ 64 - 1)
    → after ≡ min (total + here) (2 ^ 64 - 1) → after ≤ comparison_limit → IsTotalSoFar ps (i + 1) after
total-step ps i p total here after h e so_far is_here is_after low =
    let more = total-more ps i p h e in
    let whole = so_far.whole in
    let small = so_far.low in
    record { whole = omega (arith, more, whole, small); low = low }

-- if the limit is passed, the size of all products is above it
pub total-passed : (ps : List Product) (i : ℕ) (p : Product) (total here after : ℕ) → i < length ps
    → p ≡ get_or ps i p → IsTotalSoFar ps i total → here ≡ min (1 + factor_nodes (product_of p).factors) (2 ^ 64 - 1)
    → after ≡ min (total + here) (2 ^ 64 - 1) → comparison_limit < after
    → comparison_limit + 1 ≡ min (factor_total (products_at ps)) (comparison_limit + 1)
total-passed ps i p total here after h e so_far is_here is_after high =
    let more = total-more ps i p h e in
    let whole = so_far.whole in
    let small = so_far.low in
    omega (arith, more, whole, small)

-- after all products, the size is that of all
pub total-all : (ps : List Product) (i total : ℕ) → length ps ≤ i → IsTotalSoFar ps i total
    → total ≡ min (factor_total (products_at ps)) (comparison_limit + 1)
total-all ps i total h so_far =
    let none = ap (λ (qs : List Product). factor_total (products_at qs)) (drop_all i ps h) in
    let whole = so_far.whole in
    let small = so_far.low in
    omega (arith, none, whole, small)

-- the number of quotients from a position on is that at it and those after it
pub count-more : (den : ℕ) (qs : List Product) (i : ℕ) (q : Product) (o : Option plain.Signed) → i < length qs
    → q ≡ get_or qs i q → numerator den (product_of q).times (product_of q).factors ≡ o
    → quotient_count den (products_at (drop i qs))
    ≡ (elim o [ None ↦ 0 | Some b ↦ 1 ]) + quotient_count den (products_at (drop (i + 1) qs))
count-more den qs i q o h e is =
    ap (λ (ps : List Product). quotient_count den (products_at ps)) (drop_more qs i q h)
    ∙ ap (λ (r : Product). quotient_count den (product_of r ∷ products_at (drop (i + 1) qs))) (sym e)
    ∙ ap (λ (r : Option plain.Signed). (elim r [ None ↦ 0 | Some b ↦ 1 ]) + quotient_count den (products_at (drop (i + 1) qs))) is

-- whether a part, or one of the others, is a constant that is large enough, for one more part
below-part : (n m : ℕ) (b : plain.Signed) (bs : SignedParts)
    → is_below_constant n m (Part b bs) ≡ (is_below_constant n m (Part b NoParts) || is_below_constant n m bs)
below-part n m (Constant c) bs = go (nat_le n (m * c))
  where
    go : (t : Bool) → (t || is_below_constant n m bs) ≡ ((t || false) || is_below_constant n m bs)
    go true = refl
    go false = refl
below-part n m (PositivePart p) bs = refl
below-part n m (SumOf cs) bs = refl
below-part n m (ProductOf cs) bs = refl
below-part n m (MaximumOf cs) bs = refl
below-part n m (MinimumOf b cs) bs = refl
below-part n m (Quotient b d) bs = refl
below-part n m (Root b) bs = refl
below-part n m (PowerOf c e) bs = refl

-- whether one of the parts from a position on is a constant that is large enough: the one at it, or one after it
pub below-more : (n m : ℕ) (xs : List Signed) (i : ℕ) (x : Signed) (here : Bool) → i < length xs → x ≡ get_or xs i x
    → is_below_constant n m (Part (signed_of x) NoParts) ≡ here
    → is_below_constant n m (parts_of (signeds_of (drop i xs)))
    ≡ (here || is_below_constant n m (parts_of (signeds_of (drop (i + 1) xs))))
below-more n m xs i x here h e is =
    ap (λ (ys : List Signed). is_below_constant n m (parts_of (signeds_of ys))) (drop_more xs i x h)
    ∙ ap (λ (y : Signed). is_below_constant n m (Part (signed_of y) (parts_of (signeds_of (drop (i + 1) xs))))) (sym e)
    ∙ below-part n m (signed_of x) (parts_of (signeds_of (drop (i + 1) xs)))
    ∙ ap (λ (t : Bool). t || is_below_constant n m (parts_of (signeds_of (drop (i + 1) xs)))) is
