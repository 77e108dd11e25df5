-- The factors of a product before and after the first sum among them, as a loop finds them.
use Rattle.std.proofs.Common.{◌≡◌, ℕ, ◌+◌, ◌<◌, ◌≤◌, true, false, List, [], ◌∷◌, ◌++◌, length, get_or, take, drop, refl}
use Rattle.std.proofs.Common.{ap, sym}
use Rattle.std.proofs.Common.{◌∙◌, append_assoc, append-nil, subst}
use Rattle.std.proofs.lemmas.List.{take_more, map-append}
use Rattle.bound_expr.specs.model.Bounds as plain
use Rattle.bound_expr.specs.model.Bounds.{Constant, Input, SumOf, ProductOf, MaximumOf, PowerOf}
use Rattle.bound_expr.specs.declared.bound.Bound.{Bound}
use Rattle.bound_expr.specs.Kinds.{is_sum}
use Rattle.bound_expr.specs.Views.{bound_of, bounds_of}
use Rattle.bound_table.proofs.Loops.{bounds_of-drop, bounds_of-drop_all}
use Rattle.bound_table.specs.Below.{terms_of}
use Rattle.bound_table.specs.Distribution.{before_sum, parts_of_sum, after_sum, has_sum, IsSplit}

-- factors have been seen, no sum among them, and some are left
pub record ArePassed (seen left all : List plain.Bound) : Type 0 where
  pub before : seen ++ before_sum left ≡ before_sum all
  pub parts : parts_of_sum left ≡ parts_of_sum all
  pub after : after_sum left ≡ after_sum all
  pub has : has_sum left ≡ has_sum all

-- before the search all factors are left
pub ArePassed-none : (all : List plain.Bound) → ArePassed [] all all
ArePassed-none all = record { before = refl; parts = refl; after = refl; has = refl }

-- if the first factor isn't a sum, it is the first of the factors before the first sum
before_sum-other : (p : plain.Bound) (ps : List plain.Bound) → is_sum p ≡ false
    → (before_sum (p ∷ ps) ≡ p ∷ before_sum ps) × (parts_of_sum (p ∷ ps) ≡ parts_of_sum ps) × (after_sum (p ∷ ps) ≡ after_sum ps) × (has_sum (p ∷ ps) ≡ has_sum ps)
before_sum-other (Constant c) ps other = (refl, refl, refl, refl)
before_sum-other (Input i) ps other = (refl, refl, refl, refl)
before_sum-other (SumOf qs) ps other = cc
before_sum-other (ProductOf qs) ps other = (refl, refl, refl, refl)
before_sum-other (MaximumOf qs) ps other = (refl, refl, refl, refl)
before_sum-other (PowerOf c e) ps other = (refl, refl, refl, refl)

-- a factor that isn't a sum is added to the factors that have been seen
pub ArePassed-more : (seen : List plain.Bound) (p : plain.Bound) (ps all : List plain.Bound) → is_sum p ≡ false
    → ArePassed seen (p ∷ ps) all
    → ArePassed (seen ++ p ∷ []) ps all
ArePassed-more seen p ps all other passed =
    let next = before_sum-other p ps other in
    record {
      before =
          append_assoc seen (p ∷ []) (before_sum ps) ∙ ap (λ (qs : List plain.Bound). seen ++ qs) (sym next.0)
          ∙ passed.before;
      parts = sym next.1 ∙ passed.parts;
      after = sym next.2 ∙ passed.after;
      has = sym next.3 ∙ passed.has;
    }

-- at a sum, the factors are split into those seen, its parts and those left
pub ArePassed-found : (seen : List plain.Bound) (p : plain.Bound) (ps all : List plain.Bound) → is_sum p ≡ true
    → ArePassed seen (p ∷ ps) all
    → IsSplit all seen (terms_of p) ps
ArePassed-found seen (SumOf qs) ps all is passed = record {
  has = sym passed.has;
  before_is = sym (append-nil seen) ∙ passed.before;
  parts_are = passed.parts;
  after_is = passed.after;
}
ArePassed-found seen (Constant c) ps all is passed = cc
ArePassed-found seen (Input i) ps all is passed = cc
ArePassed-found seen (ProductOf qs) ps all is passed = cc
ArePassed-found seen (MaximumOf qs) ps all is passed = cc
ArePassed-found seen (PowerOf c e) ps all is passed = cc

-- before the loop all factors are left
pub ArePassed-start : (xs : List Bound) → ArePassed (bounds_of (take 0 xs)) (bounds_of (drop 0 xs)) (bounds_of xs)
ArePassed-start [] = ArePassed-none []
ArePassed-start (x ∷ xs) = ArePassed-none (bounds_of (x ∷ xs))

-- a turn of the loop at a factor that isn't a sum
pub ArePassed-turn : (xs : List Bound) (i : ℕ) (x : Bound) → i < length xs → x ≡ get_or xs i x
    → is_sum (bound_of x) ≡ false
    → ArePassed (bounds_of (take i xs)) (bounds_of (drop i xs)) (bounds_of xs)
    → ArePassed (bounds_of (take (i + 1) xs)) (bounds_of (drop (i + 1) xs)) (bounds_of xs)
ArePassed-turn xs i x h e other passed =
    let seen : bounds_of (take (i + 1) xs) ≡ bounds_of (take i xs) ++ bound_of x ∷ [] =
    ap bounds_of (take_more xs i x h) ∙ map-append bound_of (take i xs) (get_or xs i x ∷ [])
    ∙ ap (λ (y : Bound). bounds_of (take i xs) ++ bound_of y ∷ []) (sym e) in
    subst (λ (ps : List plain.Bound). ArePassed ps (bounds_of (drop (i + 1) xs)) (bounds_of xs)) (sym seen)
    (ArePassed-more (bounds_of (take i xs)) (bound_of x) (bounds_of (drop (i + 1) xs)) (bounds_of xs) other
    (subst (λ (ps : List plain.Bound). ArePassed (bounds_of (take i xs)) ps (bounds_of xs)) (bounds_of-drop xs i x h e) passed))

-- the loop ends at a sum with the factors split there
pub ArePassed-end : (xs : List Bound) (i : ℕ) (x : Bound) → i < length xs → x ≡ get_or xs i x
    → is_sum (bound_of x) ≡ true
    → ArePassed (bounds_of (take i xs)) (bounds_of (drop i xs)) (bounds_of xs)
    → IsSplit (bounds_of xs) (bounds_of (take i xs)) (terms_of (bound_of x)) (bounds_of (drop (i + 1) xs))
ArePassed-end xs i x h e is passed =
    ArePassed-found (bounds_of (take i xs)) (bound_of x) (bounds_of (drop (i + 1) xs)) (bounds_of xs) is
    (subst (λ (ps : List plain.Bound). ArePassed (bounds_of (take i xs)) ps (bounds_of xs)) (bounds_of-drop xs i x h e) passed)

-- if the loop ends without a sum, no factor is a sum
pub ArePassed-all : (xs : List Bound) (i : ℕ) → length xs ≤ i
    → ArePassed (bounds_of (take i xs)) (bounds_of (drop i xs)) (bounds_of xs)
    → has_sum (bounds_of xs) ≡ false
ArePassed-all xs i h passed = sym passed.has ∙ ap has_sum (bounds_of-drop_all xs i h)
