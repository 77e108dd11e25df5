-- Loops that take products from others.
use Rattle.std.proofs.Common.{◌≡◌, ℕ, zero, suc, ◌+◌, ◌-◌, ◌<◌, ◌≤◌, Bool, true, false, List, [], ◌∷◌, ◌++◌, map, take, drop}
use Rattle.std.proofs.Common.{get_or, set, length, Option, Some, None, refl, ap, ap₂, sym, ◌∙◌, append_assoc, append-nil}
use Rattle.std.proofs.Common.{add-one, arith}
use Rattle.std.specs.Prelude.{if◌then◌else◌, option_map, ◌==◌}
use Rattle.std.proofs.lemmas.List.{drop_more, drop_all, take_all}
use Rattle.signed_bounds.specs.Bounds as plain
use Rattle.signed_bounds.specs.Safe.{expands_to_squares}
use Rattle.signed_bounds.specs.Products as products
use Rattle.signed_bounds.specs.Covers.{missing_times, used_up, missing_products, all_used_up, fits_whole, occurs_never}
use Rattle.signed_bounds.specs.Covers.{used_whole, without_product, dominated}
use Rattle.signed_within.specs.declared.product.Product.{Product}
use Rattle.signed_within.specs.Views.{signed_at, product_of, products_at, counted, times_of}

-- a product with its number replaced by n
abbrev pub taken : Product → ℕ → products.Product
taken q n = record { times = n; factors = signed_at q.factors.items }

-- products with their own numbers are the products
pub counted-times : (qs : List Product) → counted qs (times_of qs) ≡ products_at qs
counted-times [] = refl
counted-times (q ∷ qs) = ap (λ (ps : List products.Product). product_of q ∷ ps) (counted-times qs)

-- the products from a position on are the one at it and those after it
pub counted-more : (qs : List Product) (ns : List ℕ) (i : ℕ) (q : Product) → i < length qs → length ns ≡ length qs
    → q ≡ get_or qs i q
    → counted (drop i qs) (drop i ns) ≡ taken q (get_or ns i 0) ∷ counted (drop (i + 1) qs) (drop (i + 1) ns)
counted-more qs ns i q h same e =
    let inside : i < length ns = omega arith in
    ap₂ (λ (ps : List Product) (ms : List ℕ). counted ps ms) (drop_more qs i q h) (drop_more ns i 0 inside)
    ∙ ap (λ (r : Product). taken r (get_or ns i 0) ∷ counted (drop (i + 1) qs) (drop (i + 1) ns)) (sym e)

-- if no product is left, the rest is empty
pub counted-none : (qs : List Product) (ns : List ℕ) (i : ℕ) → length qs ≤ i → counted (drop i qs) (drop i ns) ≡ []
counted-none qs ns i h = ap (λ (ps : List Product). counted ps (drop i ns)) (drop_all i qs h)

-- the products before the next position are those before this one, and the one at it
counted-push : (qs : List Product) (ns : List ℕ) (i : ℕ) (q : Product) (n : ℕ) → i < length qs → length ns ≡ i
    → q ≡ get_or qs i q
    → counted (take (suc i) qs) (ns ++ n ∷ []) ≡ counted (take i qs) ns ++ taken q n ∷ []
counted-push [] ns i q n h same e = absurd (omega arith)
counted-push (p ∷ qs) [] zero q n h same e = ap (λ (r : Product). taken r n ∷ []) (sym e)
counted-push (p ∷ qs) (m ∷ ns) zero q n h same e = absurd (omega arith)
counted-push (p ∷ qs) [] (suc i) q n h same e = absurd (omega arith)
counted-push (p ∷ qs) (m ∷ ns) (suc i) q n h same e =
    ap (λ (ps : List products.Product). taken p m ∷ ps) (counted-push qs ns i q n (omega arith) (omega arith) e)

-- the products before the end are all products
counted-all : (qs : List Product) (ns : List ℕ) (i : ℕ) → length qs ≤ i → counted (take i qs) ns ≡ counted qs ns
counted-all qs ns i h = ap (λ (ps : List Product). counted ps ns) (take_all i qs h)

-- the number missing after one more product that is taken from
pub missing-more : (test : List plain.Signed → List plain.Signed → Bool) (fs : List plain.Signed) (qs : List Product)
    (ns : List ℕ) (i : ℕ) (q : Product) (n after all : ℕ) → i < length qs → length ns ≡ length qs → q ≡ get_or qs i q
    → after ≡ (if test fs (signed_at q.factors.items) then n - get_or ns i 0 else n)
    → missing_times test n fs (counted (drop i qs) (drop i ns)) ≡ all
    → missing_times test after fs (counted (drop (i + 1) qs) (drop (i + 1) ns)) ≡ all
missing-more test fs qs ns i q n after all h same e is k =
    ap (λ (v : ℕ). missing_times test v fs (counted (drop (i + 1) qs) (drop (i + 1) ns))) is
    ∙ sym (ap (λ (ps : List products.Product). missing_times test n fs ps) (counted-more qs ns i q h same e))
    ∙ k

-- the numbers left after one more product that is taken from
pub used-more : (test : List plain.Signed → List plain.Signed → Bool) (fs : List plain.Signed) (qs : List Product)
    (ns rest : List ℕ) (i : ℕ) (q : Product) (n after left : ℕ) (all : List products.Product) → i < length qs
    → length ns ≡ length qs → length rest ≡ i → q ≡ get_or qs i q
    → after ≡ (if test fs (signed_at q.factors.items) then n - get_or ns i 0 else n)
    → left ≡ (if test fs (signed_at q.factors.items) then get_or ns i 0 - n else get_or ns i 0)
    → counted (take i qs) rest ++ used_up test n fs (counted (drop i qs) (drop i ns)) ≡ all
    → counted (take (i + 1) qs) (rest ++ left ∷ []) ++ used_up test after fs (counted (drop (i + 1) qs) (drop (i + 1) ns))
    ≡ all
used-more test fs qs ns rest i q n after left all h same size e is_after is_left k =
    let behind = counted (drop (i + 1) qs) (drop (i + 1) ns) in
    ap (λ (j : ℕ). counted (take j qs) (rest ++ left ∷ []) ++ used_up test after fs behind) (add-one i)
    ∙ ap (λ (ps : List products.Product). ps ++ used_up test after fs behind) (counted-push qs rest i q left h size e)
    ∙ append_assoc (counted (take i qs) rest) (taken q left ∷ []) (used_up test after fs behind)
    ∙ ap₂ (λ (u v : ℕ). counted (take i qs) rest ++ (taken q u ∷ used_up test v fs behind)) is_left is_after
    ∙ sym (ap (λ (ps : List products.Product). counted (take i qs) rest ++ used_up test n fs ps)
    (counted-more qs ns i q h same e))
    ∙ k

-- if there is no further product to take from, the number missing is the result
pub missing-none : (test : List plain.Signed → List plain.Signed → Bool) (fs : List plain.Signed) (qs : List Product)
    (ns : List ℕ) (i n all : ℕ) → length qs ≤ i
    → missing_times test n fs (counted (drop i qs) (drop i ns)) ≡ all → n ≡ all
missing-none test fs qs ns i n all h k =
    sym (ap (λ (ps : List products.Product). missing_times test n fs ps) (counted-none qs ns i h)) ∙ k

pub used-none : (test : List plain.Signed → List plain.Signed → Bool) (fs : List plain.Signed) (qs : List Product)
    (ns rest : List ℕ) (i n : ℕ) (all : List products.Product) → length qs ≤ i
    → counted (take i qs) rest ++ used_up test n fs (counted (drop i qs) (drop i ns)) ≡ all
    → counted qs rest ≡ all
used-none test fs qs ns rest i n all h k =
    sym (counted-all qs rest i h)
    ∙ sym (append-nil (counted (take i qs) rest))
    ∙ sym (ap (λ (ps : List products.Product). counted (take i qs) rest ++ used_up test n fs ps) (counted-none qs ns i h))
    ∙ k

-- the numbers missing after one more product that is taken
pub lacking-more : (test : List plain.Signed → List plain.Signed → Bool) (ps qs : List Product)
    (missing left new : List ℕ) (i : ℕ) (p : Product) (n : ℕ) (all : List products.Product) → i < length ps
    → length missing ≡ i → p ≡ get_or ps i p
    → n ≡ missing_times test p.times (signed_at p.factors.items) (counted qs left)
    → counted qs new ≡ used_up test p.times (signed_at p.factors.items) (counted qs left)
    → counted (take i ps) missing ++ missing_products test (products_at (drop i ps)) (counted qs left) ≡ all
    → counted (take (i + 1) ps) (missing ++ n ∷ []) ++ missing_products test (products_at (drop (i + 1) ps)) (counted qs new)
    ≡ all
lacking-more test ps qs missing left new i p n all h size e is_n is_new k =
    let behind = products_at (drop (i + 1) ps) in
    ap (λ (j : ℕ). counted (take j ps) (missing ++ n ∷ []) ++ missing_products test behind (counted qs new)) (add-one i)
    ∙ ap (λ (rs : List products.Product). rs ++ missing_products test behind (counted qs new))
    (counted-push ps missing i p n h size e)
    ∙ append_assoc (counted (take i ps) missing) (taken p n ∷ []) (missing_products test behind (counted qs new))
    ∙ ap₂ (λ (u : ℕ) (rs : List products.Product). counted (take i ps) missing
    ++ (taken p u ∷ missing_products test behind rs)) is_n is_new
    ∙ ap (λ (r : Product). counted (take i ps) missing
    ++ missing_products test (product_of r ∷ behind) (counted qs left)) e
    ∙ sym (ap (λ (rs : List Product). counted (take i ps) missing
    ++ missing_products test (products_at rs) (counted qs left)) (drop_more ps i p h))
    ∙ k

-- the numbers left of the products that are taken from, after one more product that is taken
pub rest-more : (test : List plain.Signed → List plain.Signed → Bool) (ps qs : List Product) (left new : List ℕ) (i : ℕ)
    (p : Product) (all : List products.Product) → i < length ps → p ≡ get_or ps i p
    → counted qs new ≡ used_up test p.times (signed_at p.factors.items) (counted qs left)
    → all_used_up test (products_at (drop i ps)) (counted qs left) ≡ all
    → all_used_up test (products_at (drop (i + 1) ps)) (counted qs new) ≡ all
rest-more test ps qs left new i p all h e is k =
    let behind = products_at (drop (i + 1) ps) in
    ap (λ (rs : List products.Product). all_used_up test behind rs) is
    ∙ ap (λ (r : Product). all_used_up test (product_of r ∷ behind) (counted qs left)) e
    ∙ sym (ap (λ (rs : List Product). all_used_up test (products_at rs) (counted qs left)) (drop_more ps i p h))
    ∙ k

-- if there is no further product to take, the numbers missing are the result
pub lacking-none : (test : List plain.Signed → List plain.Signed → Bool) (ps qs : List Product) (missing left : List ℕ)
    (i : ℕ) (all : List products.Product) → length ps ≤ i
    → counted (take i ps) missing ++ missing_products test (products_at (drop i ps)) (counted qs left) ≡ all
    → counted ps missing ≡ all
lacking-none test ps qs missing left i all h k =
    sym (counted-all ps missing i h)
    ∙ sym (append-nil (counted (take i ps) missing))
    ∙ sym (ap (λ (rs : List Product). counted (take i ps) missing
    ++ missing_products test (products_at rs) (counted qs left)) (drop_all i ps h))
    ∙ k

pub rest-none : (test : List plain.Signed → List plain.Signed → Bool) (ps qs : List Product) (left : List ℕ) (i : ℕ)
    (all : List products.Product) → length ps ≤ i
    → all_used_up test (products_at (drop i ps)) (counted qs left) ≡ all → counted qs left ≡ all
rest-none test ps qs left i all h k =
    sym (ap (λ (rs : List Product). all_used_up test (products_at rs) (counted qs left)) (drop_all i ps h)) ∙ k
