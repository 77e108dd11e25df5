-- Merging two sorted lists sorts the two together.
use Rattle.std.proofs.Common.{◌≡◌, ℕ, Bool, true, false, cond, List, [], ◌∷◌, ◌++◌, ◌<◌, length, take, drop}
use Rattle.std.proofs.Common.{take-append-drop, refl, ap, sym, ◌∙◌, arith}
use Rattle.std.proofs.lemmas.List.{map-append}
use Rattle.bound_expr.specs.declared.bound.Bound.{Bound}
use Rattle.bound_expr.specs.Views.{bound_of, bounds_of}
use Rattle.std.specs.declared.cmp.Ordering.{Ordering}
use Rattle.std.specs.declared.cmp.Ordering.TheVariants.{Less, Equal, Greater}
use Rattle.std.specs.Ordering.{is_lt, ordering_reverse}
use Rattle.std.specs.Cmp.{IsTotalOrder}
use Rattle.bound_expr.specs.model.Bounds as plain
use Rattle.bound_table.specs.declared.kinds.Kind.{Kind}
use Rattle.bound_table.specs.Sorting.{order_of, inserted, sorted, coming_before, not_before, merged}
use Rattle.bound_table.proofs.TotalOrder.{order_of-total}

-- p comes before q
abbrev before : Kind → plain.Bound → plain.Bound → Bool
before k p q = is_lt (order_of k p q)

-- if the test `is_lt` passes, the ordering is `Less`
is_lt-Less : (o : Ordering) → is_lt o ≡ true → o ≡ Less
is_lt-Less Less lt = refl
is_lt-Less Equal lt = cc
is_lt-Less Greater lt = cc

-- `before` is transitive
before-trans : (k : Kind) (a b c : plain.Bound) → before k a b ≡ true → before k b c ≡ true → before k a c ≡ true
before-trans k a b c ab bc =
    ap is_lt ((order_of-total k).trans a b c (is_lt-Less (order_of k a b) ab) (is_lt-Less (order_of k b c) bc))

-- if a comes before c and b doesn't, a comes before b
before-apart : (k : Kind) (a b c : plain.Bound) → before k a c ≡ true → before k b c ≡ false → before k a b ≡ true
before-apart k a b c ac bc = go (order_of k a b) refl
  where
    total : IsTotalOrder (order_of k)
    total = order_of-total k

    go : (o : Ordering) → order_of k a b ≡ o → is_lt (order_of k a b) ≡ true
    go Less is = ap is_lt is
    go Equal is = cc (ap is_lt (total.congr a b c is))
    go Greater is =
        cc (ap is_lt (total.trans b a c (total.antisymm b a ∙ ap ordering_reverse is) (is_lt-Less (order_of k a c) ac)))

-- one step of merging
merged-step : (k : Kind) (p : plain.Bound) (ps : List plain.Bound) (q : plain.Bound) (qs : List plain.Bound)
    → merged k (p ∷ ps) (q ∷ qs) ≡ cond (before k q p) (q ∷ merged k (p ∷ ps) qs) (p ∷ merged k ps (q ∷ qs))
merged-step k p ps q qs = go (before k q p)
  where
    go : (b : Bool) → cond b (q ∷ coming_before k p qs) [] ++ p ∷ merged k ps (cond b (not_before k p qs) (q ∷ qs))
        ≡ cond b (q ∷ merged k (p ∷ ps) qs) (p ∷ merged k ps (q ∷ qs))
    go true = refl
    go false = refl

-- merging a list with an empty second list gives the list
merged-none : (k : Kind) (ps : List plain.Bound) → merged k ps [] ≡ ps
merged-none k [] = refl
merged-none k (p ∷ ps) = ap (λ (qs : List plain.Bound). p ∷ qs) (merged-none k ps)

-- merging a list of one element is inserting that element
merged-one : (k : Kind) (p : plain.Bound) (qs : List plain.Bound) → merged k (p ∷ []) qs ≡ inserted k p qs
merged-one k p [] = refl
merged-one k p (q ∷ qs) = merged-step k p [] q qs ∙ go (before k q p) (merged-one k p qs)
  where
    go : (b : Bool) → merged k (p ∷ []) qs ≡ inserted k p qs
        → cond b (q ∷ merged k (p ∷ []) qs) (p ∷ q ∷ qs) ≡ cond b (q ∷ inserted k p qs) (p ∷ q ∷ qs)
    go true ih = ap (λ (rs : List plain.Bound). q ∷ rs) ih
    go false ih = refl

-- an element is inserted after a first element that comes before it
inserted-later : (k : Kind) (p q : plain.Bound) (qs : List plain.Bound) → before k q p ≡ true
    → inserted k p (q ∷ qs) ≡ q ∷ inserted k p qs
inserted-later k p q qs is = ap (λ b. cond b (q ∷ inserted k p qs) (p ∷ q ∷ qs)) is

-- an element is inserted before one that doesn't come before it
inserted-here : (k : Kind) (p q : plain.Bound) (qs : List plain.Bound) → before k q p ≡ false
    → inserted k p (q ∷ qs) ≡ p ∷ q ∷ qs
inserted-here k p q qs is = ap (λ b. cond b (q ∷ inserted k p qs) (p ∷ q ∷ qs)) is

-- merging takes the first element of the second list first if it comes before that of the first list
merged-second : (k : Kind) (p : plain.Bound) (ps : List plain.Bound) (q : plain.Bound) (qs : List plain.Bound)
    → before k q p ≡ true → merged k (p ∷ ps) (q ∷ qs) ≡ q ∷ merged k (p ∷ ps) qs
merged-second k p ps q qs is =
    merged-step k p ps q qs ∙ ap (λ b. cond b (q ∷ merged k (p ∷ ps) qs) (p ∷ merged k ps (q ∷ qs))) is

-- otherwise merging takes the first element of the first list first
merged-first : (k : Kind) (p : plain.Bound) (ps : List plain.Bound) (q : plain.Bound) (qs : List plain.Bound)
    → before k q p ≡ false → merged k (p ∷ ps) (q ∷ qs) ≡ p ∷ merged k ps (q ∷ qs)
merged-first k p ps q qs is =
    merged-step k p ps q qs ∙ ap (λ b. cond b (q ∷ merged k (p ∷ ps) qs) (p ∷ merged k ps (q ∷ qs))) is

-- an element inserted into the merged list that begins with x or y, whichever comes first
inserted-step : (k : Kind) (p x : plain.Bound) (xs : List plain.Bound) (y : plain.Bound) (ys : List plain.Bound)
    → ((zs : List plain.Bound) → merged k (inserted k p xs) zs ≡ inserted k p (merged k xs zs))
    → merged k (inserted k p (x ∷ xs)) ys ≡ inserted k p (merged k (x ∷ xs) ys)
    → (xp yx yp : Bool) → before k x p ≡ xp → before k y x ≡ yx → before k y p ≡ yp
    → merged k (inserted k p (x ∷ xs)) (y ∷ ys) ≡ inserted k p (merged k (x ∷ xs) (y ∷ ys))
inserted-step k p x xs y ys ih ih' true true yp is_xp is_yx is_yp =
    ap (λ (zs : List plain.Bound). merged k zs (y ∷ ys)) (inserted-later k p x xs is_xp)
    ∙ merged-second k x (inserted k p xs) y ys is_yx
    ∙ ap (λ (zs : List plain.Bound). y ∷ merged k zs ys) (sym (inserted-later k p x xs is_xp))
    ∙ ap (λ (zs : List plain.Bound). y ∷ zs) ih'
    ∙ sym (inserted-later k p y (merged k (x ∷ xs) ys) (before-trans k y x p is_yx is_xp))
    ∙ ap (inserted k p) (sym (merged-second k x xs y ys is_yx))
inserted-step k p x xs y ys ih ih' true false yp is_xp is_yx is_yp =
    ap (λ (zs : List plain.Bound). merged k zs (y ∷ ys)) (inserted-later k p x xs is_xp)
    ∙ merged-first k x (inserted k p xs) y ys is_yx
    ∙ ap (λ (zs : List plain.Bound). x ∷ zs) (ih (y ∷ ys))
    ∙ sym (inserted-later k p x (merged k xs (y ∷ ys)) is_xp)
    ∙ ap (inserted k p) (sym (merged-first k x xs y ys is_yx))
inserted-step k p x xs y ys ih ih' false yx true is_xp is_yx is_yp =
    ap (λ (zs : List plain.Bound). merged k zs (y ∷ ys)) (inserted-here k p x xs is_xp)
    ∙ merged-second k p (x ∷ xs) y ys is_yp
    ∙ ap (λ (zs : List plain.Bound). y ∷ merged k zs ys) (sym (inserted-here k p x xs is_xp))
    ∙ ap (λ (zs : List plain.Bound). y ∷ zs) ih'
    ∙ sym (inserted-later k p y (merged k (x ∷ xs) ys) is_yp)
    ∙ ap (inserted k p) (sym (merged-second k x xs y ys (before-apart k y x p is_yp is_xp)))
inserted-step k p x xs y ys ih ih' false true false is_xp is_yx is_yp =
    ap (λ (zs : List plain.Bound). merged k zs (y ∷ ys)) (inserted-here k p x xs is_xp)
    ∙ merged-first k p (x ∷ xs) y ys is_yp
    ∙ ap (λ (zs : List plain.Bound). p ∷ zs) (merged-second k x xs y ys is_yx)
    ∙ sym (inserted-here k p y (merged k (x ∷ xs) ys) is_yp)
    ∙ ap (inserted k p) (sym (merged-second k x xs y ys is_yx))
inserted-step k p x xs y ys ih ih' false false false is_xp is_yx is_yp =
    ap (λ (zs : List plain.Bound). merged k zs (y ∷ ys)) (inserted-here k p x xs is_xp)
    ∙ merged-first k p (x ∷ xs) y ys is_yp
    ∙ ap (λ (zs : List plain.Bound). p ∷ zs) (merged-first k x xs y ys is_yx)
    ∙ sym (inserted-here k p x (merged k xs (y ∷ ys)) is_xp)
    ∙ ap (inserted k p) (sym (merged-first k x xs y ys is_yx))

-- inserting an element and then merging with any second list is merging and then inserting it
merged-inserted_by : (k : Kind) (p x : plain.Bound) (xs : List plain.Bound)
    → ((zs : List plain.Bound) → merged k (inserted k p xs) zs ≡ inserted k p (merged k xs zs))
    → (ys : List plain.Bound) → merged k (inserted k p (x ∷ xs)) ys ≡ inserted k p (merged k (x ∷ xs) ys)
merged-inserted_by k p x xs ih [] =
    merged-none k (inserted k p (x ∷ xs)) ∙ sym (ap (inserted k p) (merged-none k (x ∷ xs)))
merged-inserted_by k p x xs ih (y ∷ ys) =
    inserted-step k p x xs y ys ih (merged-inserted_by k p x xs ih ys) (before k x p) (before k y x) (before k y p) refl
    refl refl

-- inserting an element and then merging is merging and then inserting it
merged-inserted : (k : Kind) (p : plain.Bound) (xs ys : List plain.Bound)
    → merged k (inserted k p xs) ys ≡ inserted k p (merged k xs ys)
merged-inserted k p [] ys = merged-one k p ys
merged-inserted k p (x ∷ xs) ys = merged-inserted_by k p x xs (merged-inserted k p xs) ys

-- two sorted lists merged are the two sorted together
pub merged-sorted : (k : Kind) (xs ys : List plain.Bound) → merged k (sorted k xs) (sorted k ys) ≡ sorted k (xs ++ ys)
merged-sorted k [] ys = refl
merged-sorted k (x ∷ xs) ys =
    merged-inserted k x (sorted k xs) (sorted k ys) ∙ ap (inserted k x) (merged-sorted k xs ys)

-- a list of at most one part is sorted
pub sorted-short : (k : Kind) (xs : List plain.Bound) → length xs < 2 → xs ≡ sorted k xs
sorted-short k [] short = refl
sorted-short k (x ∷ []) short = refl
sorted-short k (x ∷ y ∷ xs) short = absurd (omega arith)

-- merging the sorted halves of a list gives the sorted list
pub merged-halves : (k : Kind) (xs : List Bound) (n : ℕ) (first second : List plain.Bound)
    → first ≡ sorted k (bounds_of (take n xs)) → second ≡ sorted k (bounds_of (drop n xs))
    → merged k first second ≡ sorted k (bounds_of xs)
merged-halves k xs n first second is_first is_second =
    ap (λ (ps : List plain.Bound). merged k ps second) is_first
    ∙ ap (merged k (sorted k (bounds_of (take n xs)))) is_second
    ∙ merged-sorted k (bounds_of (take n xs)) (bounds_of (drop n xs))
    ∙ ap (sorted k) (sym (map-append bound_of (take n xs) (drop n xs)) ∙ ap bounds_of (take-append-drop n xs))
