-- Facts of each part of a list.
use Rattle.std.proofs.Common.{List, [], ◌∷◌, ◌++◌}
use Rattle.bound_expr.specs.model.Bounds.{Bound, Constant, Input, SumOf, ProductOf, MaximumOf, PowerOf, Parts, NoParts}
use Rattle.bound_expr.specs.model.Bounds.{Part}
use Rattle.bound_expr.specs.model.Bounds.{EachNode, EachNodeOfAll}
use Rattle.bound_expr.specs.Views.{parts_of, list_of}
use Rattle.bound_table.specs.Terms.{factors_of, after_constant}

-- a fact of every part
abbrev pub Each : (Bound → Type 0) → List Bound → Type 0
Each P [] = Unit {0}
Each P (p ∷ ps) = P p × Each P ps

-- a list that is not empty
abbrev pub IsFilled : List Bound → Type 0
IsFilled [] = ⊥
IsFilled (f ∷ fs) = Unit {0}

-- a property of every part of two lists is one of every part of both together
pub Each-append : (P : Bound → Type 0) (ps qs : List Bound) → Each P ps → Each P qs → Each P (ps ++ qs)
Each-append P [] qs each each' = each'
Each-append P (p ∷ ps) qs each each' = (each.0, Each-append P ps qs each.1 each')

-- a property of every factor is one of those after a leading constant
pub Each-after_constant : (P : Bound → Type 0) (ps : List Bound) → Each P ps → Each P (after_constant ps)
Each-after_constant P [] each = each
Each-after_constant P (Constant c ∷ ps) each = each.1
Each-after_constant P (Input i ∷ ps) each = each
Each-after_constant P (SumOf qs ∷ ps) each = each
Each-after_constant P (ProductOf qs ∷ ps) each = each
Each-after_constant P (MaximumOf qs ∷ ps) each = each
Each-after_constant P (PowerOf c e ∷ ps) each = each

-- a property of each node of the parts is one of each node of every part of their list
pub Each-list_of : (F : Bound → Type 0) (ps : Parts) → EachNodeOfAll F ps → Each (EachNode F) (list_of ps)
Each-list_of F NoParts each = tt
Each-list_of F (Part p ps) each = (each.0, Each-list_of F ps each.1)

-- a property of each node of every part of a list is one of each node of the parts made from it
pub Each-parts_of : (F : Bound → Type 0) (ps : List Bound) → Each (EachNode F) ps → EachNodeOfAll F (parts_of ps)
Each-parts_of F [] each = tt
Each-parts_of F (p ∷ ps) each = (each.0, Each-parts_of F ps each.1)

-- a property of each node of a part is one of each node of its factors
pub Each-factors_of : (F : Bound → Type 0) (p : Bound) → EachNode F p → Each (EachNode F) (factors_of p)
Each-factors_of F (Constant c) each = tt
Each-factors_of F (Input i) each = (each, tt)
Each-factors_of F (SumOf ps) each = (each, tt)
Each-factors_of F (ProductOf ps) each = Each-after_constant (EachNode F) (list_of ps) (Each-list_of F ps each.1)
Each-factors_of F (MaximumOf ps) each = (each, tt)
Each-factors_of F (PowerOf c e) each = (each, tt)
