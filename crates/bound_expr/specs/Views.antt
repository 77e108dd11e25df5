-- Bounds of the code as plain expressions, which contracts speak of.
use Rattle.std.specs.Prelude.{List, [], ◌∷◌, map}
use Rattle.model.specs.Bounds as plain
use Rattle.model.specs.Bounds.{Constant, Input, SumOf, ProductOf, MaximumOf, PowerOf, Parts, NoParts, Part}
use Rattle.bound_expr.specs.declared.bound.Bound.{Bound}
use Rattle.bound_expr.specs.declared.bound.Bound.TheOpen.{Bound-F, Const, Var, Sum, Prod, Max, Power}
use Rattle.bound_expr.specs.declared.bound.Bound.TheFolds.{fold-Bound}

-- a list of expressions as the parts of one
abbrev pub parts_of : List plain.Bound → Parts
parts_of [] = NoParts
parts_of (b ∷ bs) = Part b (parts_of bs)

-- the parts of an expression as a list
abbrev pub list_of : Parts → List plain.Bound
list_of NoParts = []
list_of (Part b bs) = b ∷ list_of bs

-- the parts with one more at the end
abbrev pub with_part : Parts → plain.Bound → Parts
with_part NoParts b = Part b NoParts
with_part (Part c cs) b = Part c (with_part cs b)

-- one node, with the expression of each part in the part's place
abbrev pub bound_step : Bound-F plain.Bound → plain.Bound
bound_step (Const c) = Constant c
bound_step (Var i) = Input i
bound_step (Sum bs) = SumOf (parts_of bs.items)
bound_step (Prod bs) = ProductOf (parts_of bs.items)
bound_step (Max bs) = MaximumOf (parts_of bs.items)
bound_step (Power c e) = PowerOf c e.value

-- the plain expression of a bound of the code
abbrev pub bound_of : Bound → plain.Bound
bound_of = fold-Bound plain.Bound bound_step

-- the plain expressions of a list of bounds
abbrev pub bounds_of : List Bound → List plain.Bound
bounds_of bs = map bound_of bs
