-- The differences of an atom, and the faults that prevent their expansion.
use Rattle.std.specs.Prelude.{List, [], ◌∷◌, Option, None}
use Rattle.its_model.specs.model.Programs.{Relation, EqualTo}
use Rattle.its_model.specs.model.Terms.{Term}
use Rattle.its_model.specs.poly_terms.Faults.{Fault, first_fault, or_else}
use Rattle.its_model.specs.Valid.{difference_of}

-- the differences of an atom whose expansion is needed: an equation has both differences
abbrev pub differences : Term → Relation → Term → List Term
differences l EqualTo r = difference_of l EqualTo r ∷ difference_of r EqualTo l ∷ []
differences l relation r = difference_of l relation r ∷ []

-- the fault of the first of these expressions that has one
abbrev pub first_of_all : List Term → Option Fault
first_of_all [] = None
first_of_all (t ∷ ts) = or_else (first_fault t) (first_of_all ts)
