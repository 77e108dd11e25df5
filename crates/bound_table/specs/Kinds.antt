-- Nodes with parts, of any kind.
use Rattle.std.specs.Prelude.{ℕ, zero, ◌+◌, ◌*◌, ◌==◌, max, ◌||◌, Bool, true, false, List, [], ◌∷◌}
use Rattle.bound_expr.specs.model.Bounds.{Bound, Constant, Input, SumOf, ProductOf, MaximumOf}
use Rattle.bound_expr.specs.Views.{parts_of}
use Rattle.bound_expr.specs.Kinds.{is_input, is_sum, is_maximum, is_power}
use Rattle.bound_table.specs.declared.kinds.Kind.{Kind}
use Rattle.bound_table.specs.declared.kinds.Kind.TheVariants.{AsSum, AsProd, AsMax}

-- the node of a kind with these parts
abbrev pub whole : Kind → List Bound → Bound
whole AsSum ps = SumOf (parts_of ps)
whole AsProd ps = ProductOf (parts_of ps)
whole AsMax ps = MaximumOf (parts_of ps)

-- the number that a node of a kind without parts denotes
abbrev pub unit_of : Kind → ℕ
unit_of AsSum = 0
unit_of AsProd = 1
unit_of AsMax = 0

-- two numbers joined as the kind joins its parts
abbrev pub joined : Kind → ℕ → ℕ → ℕ
joined AsSum a b = a + b
joined AsProd a b = a * b
joined AsMax a b = max a b

-- numbers joined as the kind joins its parts
abbrev pub all_joined : Kind → List ℕ → ℕ
all_joined k [] = unit_of k
all_joined k (n ∷ ns) = joined k n (all_joined k ns)

-- whether it is the constant 0
abbrev pub is_zero : Bound → Bool
is_zero (Constant zero) = true
is_zero _ = false

-- whether it is a sum or a maximum
abbrev pub is_nest : Bound → Bool
is_nest b = is_sum b || is_maximum b

-- whether it is a power or an input
abbrev pub is_power_or_input : Bound → Bool
is_power_or_input b = is_power b || is_input b

-- whether both are the same input
abbrev pub is_same_input : Bound → Bound → Bool
is_same_input (Input i) (Input j) = i == j
is_same_input _ _ = false
