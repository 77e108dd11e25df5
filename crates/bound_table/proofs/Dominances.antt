-- Parts of a maximum dropped one after another.
use Rattle.std.proofs.Common.{◌≡◌, ℕ, suc, ◌+◌, ◌-◌, ◌<◌, true, false, cond, ◌||◌, List, [], ◌∷◌, ◌++◌, length, get_or}
use Rattle.std.proofs.Common.{slice_index_or, take, drop, ap, sym, ◌∙◌, add-one, arith}
use Rattle.std.specs.Prelude.{remove}
use Rattle.std.specs.List.{list_any}
use Rattle.std.proofs.Math.Seq.{take-append_seam, drop-append_seam}
use Rattle.std.proofs.lemmas.List.{take_more, drop_more, map-append, take-map, drop-map, get_or-map, length-map}
use Rattle.std.proofs.lemmas.List.{length-take-le, length-drop, take_all}
use Rattle.std.proofs.lemmas.List.Folds.{list_any-append}
use Rattle.bound_expr.specs.model.Bounds as plain
use Rattle.bound_expr.specs.model.Bounds.{Constant}
use Rattle.bound_expr.specs.declared.bound.Bound.{Bound}
use Rattle.bound_expr.specs.Views.{bound_of, bounds_of}
use Rattle.bound_table.specs.Below.{below}
use Rattle.bound_table.specs.Dominance.{dominant_after, below_another}

-- a part that is below another one is dropped
pub dominant_after-dropped : (ps : List plain.Bound) (i : ℕ) → i < length ps → below_another ps i ≡ true
    → dominant_after (take i ps) (drop i ps) ≡ dominant_after (take i ps) (drop (i + 1) ps)
dominant_after-dropped ps i h lower =
    ap (dominant_after (take i ps)) (drop_more ps i (Constant 0) h)
    ∙ ap
    (λ b. cond b (dominant_after (take i ps) (drop (i + 1) ps)) (dominant_after (take i ps ++ slice_index_or ps i (Constant 0) ∷ []) (drop (i + 1) ps)))
    lower

-- a part that is below no other one is kept
pub dominant_after-kept : (ps : List plain.Bound) (i : ℕ) → i < length ps → below_another ps i ≡ false
    → dominant_after (take i ps) (drop i ps) ≡ dominant_after (take (i + 1) ps) (drop (i + 1) ps)
dominant_after-kept ps i h high =
    ap (dominant_after (take i ps)) (drop_more ps i (Constant 0) h)
    ∙ ap
    (λ b. cond b (dominant_after (take i ps) (drop (i + 1) ps)) (dominant_after (take i ps ++ slice_index_or ps i (Constant 0) ∷ []) (drop (i + 1) ps)))
    high
    ∙ ap (λ (qs : List plain.Bound). dominant_after qs (drop (i + 1) ps)) (sym (take_more ps i (Constant 0) h))

-- a list without the part at a position: the parts before it and those after it
bounds_of-remove : (xs : List Bound) (i : ℕ)
    → bounds_of (remove xs i) ≡ take i (bounds_of xs) ++ drop (i + 1) (bounds_of xs)
bounds_of-remove xs i =
    map-append bound_of (take i xs) (drop (suc i) xs)
    ∙ ap (λ (ps : List plain.Bound). ps ++ bounds_of (drop (suc i) xs)) (sym (take-map bound_of i xs))
    ∙ ap (λ (ps : List plain.Bound). take i (bounds_of xs) ++ ps) (sym (drop-map bound_of (suc i) xs))
    ∙ ap (λ (n : ℕ). take i (bounds_of xs) ++ drop n (bounds_of xs)) (sym (add-one i))

-- the prefix of two joined lists that is as long as the first list is the first list
seam : (fs bs : List plain.Bound) (i : ℕ) → length fs ≡ i
    → dominant_after (take i (fs ++ bs)) (drop i (fs ++ bs)) ≡ dominant_after fs bs
seam fs bs i e =
    ap (λ (n : ℕ). dominant_after (take n (fs ++ bs)) (drop n (fs ++ bs))) (sym e)
    ∙ ap (λ (qs : List plain.Bound). dominant_after qs (drop (length fs) (fs ++ bs))) (take-append_seam fs bs)
    ∙ ap (dominant_after fs) (drop-append_seam fs bs)

-- removing a part that is below another one doesn't change which parts are kept
pub dominant_after-remove : (xs ys : List Bound) (i : ℕ) → i < length xs → below_another (bounds_of xs) i ≡ true
    → ys ≡ remove xs i
    → dominant_after (take i (bounds_of ys)) (drop i (bounds_of ys))
    ≡ dominant_after (take i (bounds_of xs)) (drop i (bounds_of xs))
dominant_after-remove xs ys i h lower is =
    let ps = bounds_of xs in
    let within : i < length ps = omega (arith, length-map xs bound_of) in
    ap (λ (qs : List plain.Bound). dominant_after (take i qs) (drop i qs)) (ap bounds_of is ∙ bounds_of-remove xs i)
    ∙ seam (take i ps) (drop (i + 1) ps) i (length-take-le i ps (omega arith))
    ∙ sym (dominant_after-dropped ps i within lower)

-- a part is below another one if it is below one before or one after it
pub below_another-split : (xs : List Bound) (i : ℕ) (x : Bound) → i < length xs → x ≡ get_or xs i x
    → below_another (bounds_of xs) i
    ≡ (list_any (λ q. below (bound_of x) q) (bounds_of (take i xs)) || list_any (λ q. below (bound_of x) q) (bounds_of (drop (i + 1) xs)))
below_another-split xs i x h e =
    ap (λ p. list_any (λ q. below p q) (take i (bounds_of xs) ++ drop (i + 1) (bounds_of xs)))
    (get_or-map bound_of xs i x (Constant 0) h ∙ ap bound_of (sym e))
    ∙ list_any-append (λ q. below (bound_of x) q) (take i (bounds_of xs)) (drop (i + 1) (bounds_of xs))
    ∙ ap
    (λ (ps : List plain.Bound). list_any (λ q. below (bound_of x) q) ps || list_any (λ q. below (bound_of x) q) (drop (i + 1) (bounds_of xs)))
    (take-map bound_of i xs)
    ∙ ap
    (λ (ps : List plain.Bound). list_any (λ q. below (bound_of x) q) (bounds_of (take i xs)) || list_any (λ q. below (bound_of x) q) ps)
    (drop-map bound_of (i + 1) xs)

-- the rest after a position, cut at its own length
pub take-rest : (xs : List Bound) (i : ℕ) → take (length xs - i) (drop i xs) ≡ drop i xs
take-rest xs i = take_all (length xs - i) (drop i xs) (omega (arith, length-drop i xs))
