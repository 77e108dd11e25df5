-- The number of nodes of a product multiplied out.
use Rattle.std.proofs.Common.{◌≡◌, ℕ, ◌+◌, min, List, [], ◌∷◌, ◌++◌, length, refl, ap, arith}
use Rattle.bound_expr.specs.model.Bounds.{Bound}
use Rattle.bound_expr.specs.Views.{parts_of}
use Rattle.bound_expr.specs.Measure.{node_count, node_count_of_all}
use Rattle.bound_table.specs.declared.kinds.Kind.TheVariants.{AsProd}
use Rattle.bound_table.specs.Folding.{parts_of_kind}
use Rattle.bound_table.specs.Distribution.{product_or_single, in_place}

-- the nodes of a list of bounds
abbrev pub nodes_of : List Bound → ℕ
nodes_of ps = node_count_of_all (parts_of ps)

-- the nodes of two lists joined are the sum of their nodes
pub nodes_of-append : (ps qs : List Bound) → nodes_of (ps ++ qs) ≡ nodes_of ps + nodes_of qs
nodes_of-append [] qs = omega arith
nodes_of-append (p ∷ ps) qs = omega (arith, nodes_of-append ps qs)

-- a single factor has its own nodes alone
single-nodes : (fs : List Bound) → length fs ≡ 1 → node_count (product_or_single fs) ≡ nodes_of fs
single-nodes [] one = absurd (omega arith)
single-nodes (f ∷ []) one = omega arith
single-nodes (f ∷ g ∷ fs) one = absurd (omega arith)

-- several factors, or none, have one node more, that of the product
other-nodes : (fs : List Bound) → (length fs ≡ 1 → ⊥) → node_count (product_or_single fs) ≡ nodes_of fs + 1
other-nodes [] other = refl
other-nodes (f ∷ []) other = absurd (other (omega arith))
other-nodes (f ∷ g ∷ fs) other = omega arith

-- the nodes of the factors before, in the place of, and after the sum
placed-nodes : (before after fs : List Bound)
    → nodes_of (before ++ (fs ++ after)) ≡ (nodes_of before + nodes_of after) + nodes_of fs
placed-nodes before after fs =
    omega (arith, nodes_of-append before (fs ++ after), nodes_of-append fs after)

-- for a single factor, the nodes of the product are its nodes, counted up to a limit
pub in_place-single : (before after fs : List Bound) (p : Bound) (others inner nodes limit : ℕ)
    → fs ≡ parts_of_kind AsProd p → length (before ++ (fs ++ after)) ≡ 1
    → others ≡ min (nodes_of before + nodes_of after) limit → inner ≡ min (nodes_of fs) limit
    → nodes ≡ min (others + inner) limit
    → nodes ≡ min (node_count (in_place before after p)) limit
in_place-single before after fs p others inner nodes limit are one is_others is_inner is_nodes =
    let same = ap (λ (gs : List Bound). node_count (product_or_single (before ++ (gs ++ after)))) are in
    omega (arith, same, single-nodes (before ++ (fs ++ after)) one, placed-nodes before after fs)

-- with more factors than one, or none, the nodes are those of the factors and one of the product, up to a limit
pub in_place-product : (before after fs : List Bound) (p : Bound) (others inner nodes all limit : ℕ)
    → fs ≡ parts_of_kind AsProd p → (length (before ++ (fs ++ after)) ≡ 1 → ⊥)
    → others ≡ min (nodes_of before + nodes_of after) limit → inner ≡ min (nodes_of fs) limit
    → nodes ≡ min (others + inner) limit → all ≡ min (nodes + 1) limit
    → all ≡ min (node_count (in_place before after p)) limit
in_place-product before after fs p others inner nodes all limit are other is_others is_inner is_nodes is_all =
    let same = ap (λ (gs : List Bound). node_count (product_or_single (before ++ (gs ++ after)))) are in
    omega (arith, same, other-nodes (before ++ (fs ++ after)) other, placed-nodes before after fs)
