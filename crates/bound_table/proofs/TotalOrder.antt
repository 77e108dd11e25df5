-- The structural order is total: bounds compare as lists of numbers that spell them.
use Rattle.std.proofs.Common.{◌≡◌, ℕ, ◌==◌, ◌<◌, true, false, List, [], ◌∷◌, ◌++◌, length, refl, ap, sym, ◌∙◌, subst}
use Rattle.std.proofs.Common.{append_assoc, append-nil}
use Rattle.std.specs.declared.cmp.Ordering.{Ordering}
use Rattle.std.specs.declared.cmp.Ordering.TheVariants.{Less, Equal, Greater}
use Rattle.std.specs.Ordering.{is_eq, nat_cmp, ordering_then, ordering_reverse, MatchOrdering, on, flip_args}
use Rattle.std.specs.Cmp.{IsTotalOrder}
use Rattle.std.specs.Cmp.Lexicographic.{slice_cmp}
use Rattle.std.proofs.lemmas.Cmp.{ranked, nat_cmp_total, nat_list_cmp_total, lists_total, on_total, then_total}
use Rattle.std.proofs.lemmas.Cmp.{back_total}
use Rattle.bound_expr.specs.model.Bounds.{Bound, Constant, Input, SumOf, ProductOf, MaximumOf, PowerOf, Parts, NoParts}
use Rattle.bound_expr.specs.model.Bounds.{Part}
use Rattle.bound_expr.specs.Views.{parts_of}
use Rattle.bound_table.specs.declared.kinds.Kind.{Kind}
use Rattle.bound_table.specs.declared.kinds.Kind.TheVariants.{AsSum, AsProd, AsMax}
use Rattle.bound_table.specs.declared.kinds.Counted.{Counted}
use Rattle.bound_table.specs.declared.kinds.Counted.TheVariants.{Powers, Nests, Inputs}
use Rattle.bound_table.specs.Terms.{constant_of, factors_of}
use Rattle.bound_table.specs.Sorting.{factor_rank, factors_compared, count_in, parts_compared, order_of}
use Rattle.bound_table.specs.Comparison.{compared, all_compared}

-- an empty list of parts comes before one that is not empty
pub all_compared-shorter : (qs : List Bound) → (length qs == 0) ≡ false → all_compared NoParts (parts_of qs) ≡ Less
all_compared-shorter [] some = cc
all_compared-shorter (q ∷ qs) some = refl

-- a bound spelled in numbers: its kind, its number or base, its parts and a 0 after the last one
abbrev mutual
  spelled : Bound → List ℕ
  spelled (Constant c) = 1 ∷ c ∷ []
  spelled (Input i) = 2 ∷ i ∷ []
  spelled (SumOf ps) = 3 ∷ all_spelled ps
  spelled (ProductOf ps) = 4 ∷ all_spelled ps
  spelled (MaximumOf ps) = 5 ∷ all_spelled ps
  spelled (PowerOf c e) = 6 ∷ c ∷ spelled e

  all_spelled : Parts → List ℕ
  all_spelled NoParts = 0 ∷ []
  all_spelled (Part p ps) = spelled p ++ all_spelled ps

-- lists of parts are compared part by part
pub slice_cmp-compared : (ps qs : List Bound) → slice_cmp compared ps qs ≡ all_compared (parts_of ps) (parts_of qs)
slice_cmp-compared [] [] = refl
slice_cmp-compared [] (q ∷ qs) = refl
slice_cmp-compared (p ∷ ps) [] = refl
slice_cmp-compared (p ∷ ps) (q ∷ qs) = ap (ordering_then (compared p q)) (slice_cmp-compared ps qs)

-- comparing by three orders one after the other doesn't depend on the grouping
ordering_then-assoc : (a b c : Ordering) → ordering_then a (ordering_then b c) ≡ ordering_then (ordering_then a b) c
ordering_then-assoc Less b c = refl
ordering_then-assoc Equal b c = refl
ordering_then-assoc Greater b c = refl

-- an order followed by `Equal` is unchanged
ordering_then-Equal : (a : Ordering) → ordering_then a Equal ≡ a
ordering_then-Equal Less = refl
ordering_then-Equal Equal = refl
ordering_then-Equal Greater = refl

-- the end mark 0 comes before the spelling of any bound
end-first : (q : Bound) (r s : List ℕ) → slice_cmp nat_cmp (0 ∷ r) (spelled q ++ s) ≡ Less
end-first (Constant c) r s = refl
end-first (Input i) r s = refl
end-first (SumOf ps) r s = refl
end-first (ProductOf ps) r s = refl
end-first (MaximumOf ps) r s = refl
end-first (PowerOf c e) r s = refl

-- the spelling of any bound comes after the end mark 0
end-last : (p : Bound) (r s : List ℕ) → slice_cmp nat_cmp (spelled p ++ r) (0 ∷ s) ≡ Greater
end-last (Constant c) r s = refl
end-last (Input i) r s = refl
end-last (SumOf ps) r s = refl
end-last (ProductOf ps) r s = refl
end-last (MaximumOf ps) r s = refl
end-last (PowerOf c e) r s = refl

-- the spellings of bounds are compared as the bounds are
mutual
  compared-spelled : (a b : Bound) (r s : List ℕ)
      → slice_cmp nat_cmp (spelled a ++ r) (spelled b ++ s) ≡ ordering_then (compared a b) (slice_cmp nat_cmp r s)
  compared-spelled (Constant c) (Constant d) r s = refl
  compared-spelled (Input i) (Input j) r s = refl
  compared-spelled (SumOf ps) (SumOf qs) r s = all_compared-spelled ps qs r s
  compared-spelled (ProductOf ps) (ProductOf qs) r s = all_compared-spelled ps qs r s
  compared-spelled (MaximumOf ps) (MaximumOf qs) r s = all_compared-spelled ps qs r s
  compared-spelled (PowerOf c e) (PowerOf d f) r s =
      ap (ordering_then (nat_cmp c d)) (compared-spelled e f r s)
      ∙ ordering_then-assoc (nat_cmp c d) (compared e f) (slice_cmp nat_cmp r s)
  compared-spelled a b r s = refl

  all_compared-spelled : (ps qs : Parts) (r s : List ℕ)
      → slice_cmp nat_cmp (all_spelled ps ++ r) (all_spelled qs ++ s)
      ≡ ordering_then (all_compared ps qs) (slice_cmp nat_cmp r s)
  all_compared-spelled NoParts NoParts r s = refl
  all_compared-spelled NoParts (Part q qs) r s =
      ap (λ (w : List ℕ). slice_cmp nat_cmp (0 ∷ r) w) (append_assoc (spelled q) (all_spelled qs) s)
      ∙ end-first q r (all_spelled qs ++ s)
  all_compared-spelled (Part p ps) NoParts r s =
      ap (λ (w : List ℕ). slice_cmp nat_cmp w (0 ∷ s)) (append_assoc (spelled p) (all_spelled ps) r)
      ∙ end-last p (all_spelled ps ++ r) s
  all_compared-spelled (Part p ps) (Part q qs) r s =
      ap (λ (w : List ℕ). slice_cmp nat_cmp w ((spelled q ++ all_spelled qs) ++ s))
      (append_assoc (spelled p) (all_spelled ps) r)
      ∙ ap (λ (w : List ℕ). slice_cmp nat_cmp (spelled p ++ (all_spelled ps ++ r)) w)
      (append_assoc (spelled q) (all_spelled qs) s)
      ∙ compared-spelled p q (all_spelled ps ++ r) (all_spelled qs ++ s)
      ∙ ap (ordering_then (compared p q)) (all_compared-spelled ps qs r s)
      ∙ ordering_then-assoc (compared p q) (all_compared ps qs) (slice_cmp nat_cmp r s)

-- bounds are compared as their spellings
compared-by_spelling : (a b : Bound) → slice_cmp nat_cmp (spelled a) (spelled b) ≡ compared a b
compared-by_spelling a b =
    ap (λ (w : List ℕ). slice_cmp nat_cmp w (spelled b)) (sym (append-nil (spelled a)))
    ∙ ap (λ (w : List ℕ). slice_cmp nat_cmp (spelled a ++ []) w) (sym (append-nil (spelled b)))
    ∙ compared-spelled a b [] []
    ∙ ordering_then-Equal (compared a b)

-- an order that gives the same results as a total order is total
same-total : {K : Type 0} (r s : K → K → Ordering) → ((x y : K) → r x y ≡ s x y) → IsTotalOrder r → IsTotalOrder s
same-total r s same total = record {
  antisymm = λ x y. sym (same x y) ∙ total.antisymm x y ∙ ap ordering_reverse (same y x);
  trans = λ x y z before behind. sym (same x z) ∙ total.trans x y z (same x y ∙ before) (same y z ∙ behind);
  congr = λ x y z level. sym (same x z) ∙ total.congr x y z (same x y ∙ level) ∙ same y z;
}

-- the structural order is total
pub compared-total : IsTotalOrder compared
compared-total =
    same-total (on spelled (slice_cmp nat_cmp)) compared compared-by_spelling (on_total spelled nat_list_cmp_total)

-- the order of factors is total
factors_compared-total : IsTotalOrder factors_compared
factors_compared-total = then_total (on_total factor_rank nat_cmp_total) compared-total

-- the order by a count, greater first, is total
count-total : (c : Counted) → IsTotalOrder (flip_args (on (count_in c) nat_cmp))
count-total c = back_total (on_total (count_in c) nat_cmp_total)

-- the order of parts is total
parts_compared-total : IsTotalOrder parts_compared
parts_compared-total =
    then_total (count-total Powers) (then_total (count-total Nests) (then_total (count-total Inputs)
    (then_total (on_total factors_of (lists_total compared-total)) (back_total (on_total constant_of nat_cmp_total)))))

-- the order of the parts of a node is total
pub order_of-total : (k : Kind) → IsTotalOrder (order_of k)
order_of-total AsProd = factors_compared-total
order_of-total AsSum = parts_compared-total
order_of-total AsMax = parts_compared-total

-- two orders, one after the other, give `Equal` only if both do
ordering_then-parts : (a b : Ordering) → ordering_then a b ≡ Equal → (a ≡ Equal) × (b ≡ Equal)
ordering_then-parts Less b e = cc
ordering_then-parts Equal b e = (refl, e)
ordering_then-parts Greater b e = cc

-- numbers that compare as equal are equal
nat_cmp-Equal : (c d : ℕ) → nat_cmp c d ≡ Equal → c ≡ d
nat_cmp-Equal c d e =
    subst (λ (o : Ordering). MatchOrdering o (c < d) (c ≡ d) (d < c)) e (ranked c d (nat_cmp c d) refl)

mutual
  -- bounds that are equal in the structural order are the same
  pub compared-same : (a b : Bound) → compared a b ≡ Equal → a ≡ b
  compared-same (Constant c) (Constant d) e = ap Constant (nat_cmp-Equal c d e)
  compared-same (Input i) (Input j) e = ap Input (nat_cmp-Equal i j e)
  compared-same (SumOf ps) (SumOf qs) e = ap SumOf (all_compared-same ps qs e)
  compared-same (ProductOf ps) (ProductOf qs) e = ap ProductOf (all_compared-same ps qs e)
  compared-same (MaximumOf ps) (MaximumOf qs) e = ap MaximumOf (all_compared-same ps qs e)
  compared-same (PowerOf c e) (PowerOf d f) same =
      let both = ordering_then-parts (nat_cmp c d) (compared e f) same in
      ap (λ (n : ℕ). PowerOf n e) (nat_cmp-Equal c d both.0) ∙ ap (PowerOf d) (compared-same e f both.1)
  compared-same a b e = cc

  -- lists of parts that are equal in the structural order are the same
  pub all_compared-same : (ps qs : Parts) → all_compared ps qs ≡ Equal → ps ≡ qs
  all_compared-same NoParts NoParts e = refl
  all_compared-same NoParts (Part q qs) e = cc
  all_compared-same (Part p ps) NoParts e = cc
  all_compared-same (Part p ps) (Part q qs) e =
      let both = ordering_then-parts (compared p q) (all_compared ps qs) e in
      ap (λ (b : Bound). Part b ps) (compared-same p q both.0) ∙ ap (Part q) (all_compared-same ps qs both.1)

-- if the test `is_eq` passes, the ordering is `Equal`
pub is_eq-Equal : (o : Ordering) → is_eq o ≡ true → o ≡ Equal
is_eq-Equal Less e = cc
is_eq-Equal Equal e = refl
is_eq-Equal Greater e = cc

-- bounds that the test finds equal are equal
pub is_eq-same : (a b : Bound) → is_eq (compared a b) ≡ true → a ≡ b
is_eq-same a b same = compared-same a b (is_eq-Equal (compared a b) same)
