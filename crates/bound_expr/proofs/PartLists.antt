-- Parts as a list and a list as parts undo each other.
use Rattle.std.proofs.Common.{◌≡◌, List, [], ◌∷◌, refl, ap}
use Rattle.model.specs.Bounds.{Bound, Parts, NoParts, Part}
use Rattle.bound_expr.specs.Views.{parts_of, list_of}

-- the parts of the list of parts are the parts
pub parts_of-list_of : (ps : Parts) → parts_of (list_of ps) ≡ ps
parts_of-list_of NoParts = refl
parts_of-list_of (Part b bs) = ap (Part b) (parts_of-list_of bs)

-- the list of the parts made from a list is the list
pub list_of-parts_of : (bs : List Bound) → list_of (parts_of bs) ≡ bs
list_of-parts_of [] = refl
list_of-parts_of (b ∷ bs) = ap (λ (cs : List Bound). b ∷ cs) (list_of-parts_of bs)
