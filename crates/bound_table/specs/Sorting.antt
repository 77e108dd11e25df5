-- The order of parts, and sorting by it.
use Rattle.std.specs.Prelude.{ℕ, cond, Bool, false, List, [], ◌∷◌, ◌++◌}
use Rattle.std.specs.List.{count_by}
use Rattle.std.specs.declared.cmp.Ordering.{Ordering}
use Rattle.std.specs.Ordering.{nat_cmp, ordering_then, is_lt}
use Rattle.std.specs.Cmp.Lexicographic.{slice_cmp}
use Rattle.bound_expr.specs.model.Bounds.{Bound, Constant, Input, SumOf, ProductOf, MaximumOf, PowerOf}
use Rattle.bound_table.specs.declared.kinds.Kind.{Kind}
use Rattle.bound_table.specs.declared.kinds.Kind.TheVariants.{AsSum, AsProd, AsMax}
use Rattle.bound_table.specs.declared.kinds.Counted.{Counted}
use Rattle.bound_table.specs.declared.kinds.Counted.TheVariants.{Powers, Nests, Inputs}
use Rattle.bound_table.specs.Counting.{is_counted}
use Rattle.bound_table.specs.Terms.{constant_of, factors_of}
use Rattle.bound_table.specs.Comparison.{compared}

-- the rank of a kind of bound among factors: constants, powers, inputs, maximums, sums; a product comes last
abbrev pub factor_rank : Bound → ℕ
factor_rank (Constant c) = 0
factor_rank (PowerOf c e) = 1
factor_rank (Input i) = 2
factor_rank (MaximumOf ps) = 3
factor_rank (SumOf ps) = 4
factor_rank (ProductOf ps) = 5

-- factors are ordered by kind, then structurally
abbrev pub factors_compared : Bound → Bound → Ordering
factors_compared p q = ordering_then (nat_cmp (factor_rank p) (factor_rank q)) (compared p q)

-- the number of a part's factors of the sort counted
abbrev pub count_in : Counted → Bound → ℕ
count_in c p = count_by (is_counted c) (factors_of p)

-- the parts of a sum or maximum are ordered by these three counts, greater first, then by the factors, least first,
-- then by the constant, greater first
abbrev pub parts_compared : Bound → Bound → Ordering
parts_compared p q =
    ordering_then (nat_cmp (count_in Powers q) (count_in Powers p))
    (ordering_then (nat_cmp (count_in Nests q) (count_in Nests p))
    (ordering_then (nat_cmp (count_in Inputs q) (count_in Inputs p))
    (ordering_then (slice_cmp compared (factors_of p) (factors_of q)) (nat_cmp (constant_of q) (constant_of p)))))

-- the order of the parts of a node of the kind
abbrev pub order_of : Kind → Bound → Bound → Ordering
order_of AsProd p q = factors_compared p q
order_of AsSum p q = parts_compared p q
order_of AsMax p q = parts_compared p q

-- p inserted before the first that doesn't come before it
abbrev pub inserted : Kind → Bound → List Bound → List Bound
inserted k p [] = p ∷ []
inserted k p (q ∷ qs) = cond (is_lt (order_of k q p)) (q ∷ inserted k p qs) (p ∷ q ∷ qs)

-- the parts in order; equal parts keep their order
abbrev pub sorted : Kind → List Bound → List Bound
sorted k [] = []
sorted k (p ∷ ps) = inserted k p (sorted k ps)

-- the longest prefix of bounds that come before p
abbrev pub coming_before : Kind → Bound → List Bound → List Bound
coming_before k p [] = []
coming_before k p (q ∷ qs) = cond (is_lt (order_of k q p)) (q ∷ coming_before k p qs) []

-- the parts after that prefix
abbrev pub not_before : Kind → Bound → List Bound → List Bound
not_before k p [] = []
not_before k p (q ∷ qs) = cond (is_lt (order_of k q p)) (not_before k p qs) (q ∷ qs)

-- the list is not empty, and its first bound comes before p
abbrev pub starts_before : Kind → Bound → List Bound → Bool
starts_before k p [] = false
starts_before k p (q ∷ qs) = is_lt (order_of k q p)

-- two ordered lists merged: each part of the first list follows those of the second that come before it
abbrev pub merged : Kind → List Bound → List Bound → List Bound
merged k [] qs = qs
merged k (p ∷ ps) qs = coming_before k p qs ++ p ∷ merged k ps (not_before k p qs)
