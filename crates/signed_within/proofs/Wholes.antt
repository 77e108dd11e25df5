-- The first product that as a whole is at least another one, and products that are taken one after another.
use Rattle.std.proofs.Common.{◌≡◌, ℕ, zero, suc, ◌+◌, ◌<◌, ◌≤◌, Bool, true, false, List, [], ◌∷◌, ◌++◌, map, take, drop}
use Rattle.std.proofs.Common.{get_or, set, length, Option, Some, None, refl, ap, sym, ◌∙◌, arith}
use Rattle.std.specs.Prelude.{if◌then◌else◌, option_map, ◌==◌, Vec}
use Rattle.std.specs.declared.alloc.Global.{Global}
use Rattle.std.proofs.lemmas.List.{drop_all}
use Rattle.signed_bounds.specs.Bounds as plain
use Rattle.signed_bounds.specs.Safe.{expands_to_squares}
use Rattle.signed_bounds.specs.Products as products
use Rattle.signed_bounds.specs.Covers.{missing_times, used_up, factors_fit, fits_whole, occurs_never, used_whole}
use Rattle.signed_bounds.specs.Covers.{without_product, dominated}
use Rattle.signed_within.specs.declared.product.Product.{Product}
use Rattle.signed_within.specs.Views.{signed_at, counted}
use Rattle.signed_within.specs.Taking.{IsLeft}
use Rattle.signed_within.proofs.Takings.{taken, counted-more, counted-none}

-- a result found after a prefix, with the prefix before it
abbrev pub behind : List products.Product → Option (List products.Product) → Option (List products.Product)
behind before o = option_map (λ found. before ++ found) o

-- a result found after one more product is found after a prefix longer by one
behind_one : (y : products.Product) (before : List products.Product) (o : Option (List products.Product))
    → behind (y ∷ before) o ≡ option_map (λ found. y ∷ found) (behind before o)
behind_one y before None = refl
behind_one y before (Some found) = refl

-- a result found after no prefix is the result
behind_none : (o : Option (List products.Product)) → behind [] o ≡ o
behind_none None = refl
behind_none (Some found) = refl

-- the result at the first product, by whether it is large enough as a whole
at_first : (p y : products.Product) (ys : List products.Product) (t : Bool)
    → fits_whole expands_to_squares p.times p.factors y.times y.factors ≡ t
    → used_whole expands_to_squares p (y ∷ ys)
    ≡ (if t then Some (occurs_never y ∷ ys) else option_map (λ found. y ∷ found) (used_whole expands_to_squares p ys))
at_first p y ys t e =
    ap (λ (s : Bool). if s then Some (occurs_never y ∷ ys)
    else option_map (λ found. y ∷ found) (used_whole expands_to_squares p ys)) e

-- a product that isn't large enough is added to the prefix
pub whole_fails : (p : products.Product) (qs : List Product) (ns : List ℕ) (i : ℕ) (q : Product) → i < length qs
    → length ns ≡ length qs → q ≡ get_or qs i q
    → fits_whole expands_to_squares p.times p.factors (get_or ns i 0) (signed_at q.factors.items) ≡ false
    → behind (counted (take i qs) (take i ns)) (used_whole expands_to_squares p (counted (drop i qs) (drop i ns)))
    ≡ behind (counted (take (suc i) qs) (take (suc i) ns))
    (used_whole expands_to_squares p (counted (drop (suc i) qs) (drop (suc i) ns)))
whole_fails p [] ns i q h same e f = absurd (omega arith)
whole_fails p (x ∷ qs) [] i q h same e f = absurd (omega arith)
whole_fails p (x ∷ qs) (n ∷ ns) zero q h same e f =
    behind_none (used_whole expands_to_squares p (taken x n ∷ counted qs ns))
    ∙ at_first p (taken x n) (counted qs ns) false
    (ap (λ (r : Product). fits_whole expands_to_squares p.times p.factors n (signed_at r.factors.items)) (sym e) ∙ f)
    ∙ ap (λ (o : Option (List products.Product)). option_map (λ found. taken x n ∷ found) o)
    (sym (behind_none (used_whole expands_to_squares p (counted qs ns))))
    ∙ sym (behind_one (taken x n) [] (used_whole expands_to_squares p (counted qs ns)))
whole_fails p (x ∷ qs) (n ∷ ns) (suc i) q h same e f =
    behind_one (taken x n) (counted (take i qs) (take i ns))
    (used_whole expands_to_squares p (counted (drop i qs) (drop i ns)))
    ∙ ap (λ (o : Option (List products.Product)). option_map (λ found. taken x n ∷ found) o)
    (whole_fails p qs ns i q (omega arith) (omega arith) e f)
    ∙ sym (behind_one (taken x n) (counted (take (suc i) qs) (take (suc i) ns))
    (used_whole expands_to_squares p (counted (drop (suc i) qs) (drop (suc i) ns))))

-- a product that is large enough is used up
pub whole_passes : (p : products.Product) (qs : List Product) (ns : List ℕ) (i : ℕ) (q : Product) → i < length qs
    → length ns ≡ length qs → q ≡ get_or qs i q
    → fits_whole expands_to_squares p.times p.factors (get_or ns i 0) (signed_at q.factors.items) ≡ true
    → behind (counted (take i qs) (take i ns)) (used_whole expands_to_squares p (counted (drop i qs) (drop i ns)))
    ≡ Some (counted qs (set ns i 0))
whole_passes p [] ns i q h same e f = absurd (omega arith)
whole_passes p (x ∷ qs) [] i q h same e f = absurd (omega arith)
whole_passes p (x ∷ qs) (n ∷ ns) zero q h same e f =
    behind_none (used_whole expands_to_squares p (taken x n ∷ counted qs ns))
    ∙ at_first p (taken x n) (counted qs ns) true
    (ap (λ (r : Product). fits_whole expands_to_squares p.times p.factors n (signed_at r.factors.items)) (sym e) ∙ f)
whole_passes p (x ∷ qs) (n ∷ ns) (suc i) q h same e f =
    behind_one (taken x n) (counted (take i qs) (take i ns))
    (used_whole expands_to_squares p (counted (drop i qs) (drop i ns)))
    ∙ ap (λ (o : Option (List products.Product)). option_map (λ found. taken x n ∷ found) o)
    (whole_passes p qs ns i q (omega arith) (omega arith) e f)

-- if no product is left, none is large enough
pub whole_none : (p : products.Product) (qs : List Product) (ns : List ℕ) (i : ℕ) → length qs ≤ i
    → behind (counted (take i qs) (take i ns)) (used_whole expands_to_squares p (counted (drop i qs) (drop i ns))) ≡ None
whole_none p qs ns i h =
    ap (λ (ps : List products.Product). behind (counted (take i qs) (take i ns)) (used_whole expands_to_squares p ps))
    (counted-none qs ns i h)

-- one more product is taken, or can't be taken
pub dominated-step : (ps qs : List Product) (missing left : List ℕ) (i : ℕ) (p : Product)
    (o : Option (List products.Product)) → i < length ps → length missing ≡ length ps → p ≡ get_or ps i p
    → without_product expands_to_squares (taken p (get_or missing i 0)) (counted qs left) ≡ o
    → dominated expands_to_squares (counted (drop i ps) (drop i missing)) (counted qs left)
    ≡ (elim o [ None ↦ false | Some found ↦ dominated expands_to_squares (counted (drop (i + 1) ps) (drop (i + 1) missing)) found ])
dominated-step ps qs missing left i p o h same e is =
    ap (λ (rs : List products.Product). dominated expands_to_squares rs (counted qs left))
    (counted-more ps missing i p h same e)
    ∙ ap (λ (r : Option (List products.Product)). elim r [ None ↦ false | Some found ↦ dominated expands_to_squares (counted (drop (i + 1) ps) (drop (i + 1) missing)) found ]) is

-- if no further product has to be taken, all are dominated
pub dominated-none : (ps : List Product) (missing : List ℕ) (i : ℕ) (qs : List products.Product) → length ps ≤ i
    → dominated expands_to_squares (counted (drop i ps) (drop i missing)) qs ≡ true
dominated-none ps missing i qs h =
    ap (λ (rs : List products.Product). dominated expands_to_squares rs qs) (counted-none ps missing i h)

-- a product that can be taken from those that it fits is taken; else one that is large enough as a whole is used up
pub without_product-found : (p : products.Product) (qs : List products.Product)
    → missing_times (factors_fit expands_to_squares) p.times p.factors qs ≡ 0
    → without_product expands_to_squares p qs ≡ Some (used_up (factors_fit expands_to_squares) p.times p.factors qs)
without_product-found p qs e =
    ap (λ (n : ℕ). if n == 0 then Some (used_up (factors_fit expands_to_squares) p.times p.factors qs)
    else used_whole expands_to_squares p qs) e

pub without_product-whole : (p : products.Product) (qs : List products.Product)
    → (missing_times (factors_fit expands_to_squares) p.times p.factors qs == 0) ≡ false
    → without_product expands_to_squares p qs ≡ used_whole expands_to_squares p qs
without_product-whole p qs e =
    ap (λ (t : Bool). if t then Some (used_up (factors_fit expands_to_squares) p.times p.factors qs)
    else used_whole expands_to_squares p qs) e
