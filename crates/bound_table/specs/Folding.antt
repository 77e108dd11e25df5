-- The cases that flatten nodes, fold constants and drop parts.
use Rattle.std.specs.Prelude.{ℕ, ◌==◌, nat_le, ◌&&◌, cond, Bool, false, List, [], ◌∷◌, ◌++◌}
use Rattle.std.specs.List.{list_any, count_by}
use Rattle.bound_expr.specs.model.Bounds.{Bound, Constant, SumOf, ProductOf, MaximumOf}
use Rattle.bound_expr.specs.Views.{list_of}
use Rattle.bound_expr.specs.Limits.{constant_limit}
use Rattle.bound_expr.specs.Capped.{capped}
use Rattle.bound_expr.specs.Kinds.{is_constant}
use Rattle.bound_table.specs.declared.kinds.Kind.{Kind}
use Rattle.bound_table.specs.declared.kinds.Kind.TheVariants.{AsSum, AsProd, AsMax}
use Rattle.bound_table.specs.Kinds.{whole, unit_of, joined, all_joined, is_zero}

-- the parts of a node of the kind; any other bound is its own only part
abbrev pub parts_of_kind : Kind → Bound → List Bound
parts_of_kind AsSum (SumOf ps) = list_of ps
parts_of_kind AsProd (ProductOf ps) = list_of ps
parts_of_kind AsMax (MaximumOf ps) = list_of ps
parts_of_kind k b = b ∷ []

-- each part of the kind replaced by its own parts, in place
abbrev pub spliced : Kind → List Bound → List Bound
spliced k [] = []
spliced k (p ∷ ps) = parts_of_kind k p ++ spliced k ps

-- the numbers of the constants among the parts
abbrev pub constants_in : List Bound → List ℕ
constants_in [] = []
constants_in (Constant c ∷ ps) = c ∷ constants_in ps
constants_in (p ∷ ps) = constants_in ps

-- the total joined with a part if the part is a constant, or 2^127 if that is more
abbrev pub total_with : Kind → ℕ → Bound → ℕ
total_with k total (Constant c) = capped (joined k total c)
total_with k total _ = total

-- the parts that are no constants
abbrev pub without_constants : List Bound → List Bound
without_constants [] = []
without_constants (p ∷ ps) = cond (is_constant p) (without_constants ps) (p ∷ without_constants ps)

-- the constant c in place of the first constant, and the other constants gone
abbrev pub with_one_constant : ℕ → List Bound → List Bound
with_one_constant c [] = []
with_one_constant c (p ∷ ps) = cond (is_constant p) (Constant c ∷ without_constants ps) (p ∷ with_one_constant c ps)

-- two or more constants become one, at the position of the first, if the result is at most 2^127 - 1
abbrev pub folded : Kind → List Bound → List Bound
folded k ps =
    cond (nat_le 2 (count_by is_constant ps) && nat_le (all_joined k (constants_in ps)) constant_limit)
    (with_one_constant (all_joined k (constants_in ps)) ps) ps

-- a product with a part 0 becomes 0
abbrev pub zeroed : Kind → List Bound → Bound
zeroed AsProd ps = cond (list_any is_zero ps) (Constant 0) (whole AsProd ps)
zeroed k ps = whole k ps

-- a part is neutral in a node of the kind: the constant that changes nothing there
abbrev pub is_neutral : Kind → Bound → Bool
is_neutral k (Constant c) = c == unit_of k
is_neutral k _ = false

-- the parts that are not neutral
abbrev pub without_neutral : Kind → List Bound → List Bound
without_neutral k [] = []
without_neutral k (p ∷ ps) = cond (is_neutral k p) (without_neutral k ps) (p ∷ without_neutral k ps)

-- a node without parts becomes its constant, and a node with a single part becomes that part
abbrev pub simple : Kind → List Bound → Bound
simple k [] = Constant (unit_of k)
simple k (p ∷ []) = p
simple k ps = whole k ps
