-- The linear rows of a rule, its new values, nonlinear places and polynomials.
use Rattle.std.specs.Prelude.{ℕ, suc, ◌+◌, Bool, true, false, if◌then◌else◌, nat_lt, List, [], ◌∷◌, ◌++◌, map}
use Rattle.std.specs.Prelude.{neg_ℤ}
use Rattle.poly_terms.specs.model.Programs.{Relation, AtLeast, MoreThan, AtMost, LessThan, EqualTo, Atom, Always}
use Rattle.poly_terms.specs.model.Programs.{Compare, Rule}
use Rattle.poly_terms.specs.model.Polynomials.{Polynomial, degree_of}
use Rattle.poly_terms.specs.linear_forms.Forms.{Form}
use Rattle.poly_terms.specs.Expanding.{expanded, variable_form}
use Rattle.poly_terms.specs.AffineForms.{linear_form}
use Rattle.its_model.specs.Valid.{difference_of}
use Rattle.guard_prep.specs.Tightening.{tightened}

-- a polynomial has degree 2 or more
abbrev pub is_nonlinear : Polynomial → Bool
is_nonlinear p = nat_lt 1 (degree_of p)

-- the expanded polynomials of the updates
abbrev pub polys_of : Rule → List Polynomial
polys_of r = map expanded r.updates

-- the places whose update has degree 2 or more
abbrev pub nonlinear_of : Rule → List Bool
nonlinear_of r = map is_nonlinear (polys_of r)

-- how many flags are true
abbrev pub count_true : List Bool → ℕ
count_true [] = 0
count_true (true ∷ bs) = suc (count_true bs)
count_true (false ∷ bs) = count_true bs

-- the unknowns of a rule: its left variables, its free variables, and one for each nonlinear place, in order of places
abbrev pub unknowns_of : Rule → ℕ
unknowns_of r = r.left + r.free + count_true (nonlinear_of r)

-- the negated form
abbrev pub opposite_form : Form → Form
opposite_form f = record { coefs = map neg_ℤ f.coefs; constant = neg_ℤ f.constant }

-- the rows of a comparison, given the form of its difference: an equation also has the negated row
abbrev pub rows_by : Relation → Form → List Form
rows_by AtLeast f = f ∷ []
rows_by MoreThan f = f ∷ []
rows_by AtMost f = f ∷ []
rows_by LessThan f = f ∷ []
rows_by EqualTo f = f ∷ opposite_form f ∷ []

-- the rows of a comparison over this many unknowns, from its expanded difference: none if that has degree 2 or more
abbrev pub rows_of_difference : ℕ → Relation → Polynomial → List Form
rows_of_difference width r p = if is_nonlinear p then [] else rows_by r (linear_form width p)

-- the rows of an atom
abbrev pub rows_of_atom : ℕ → Atom → List Form
rows_of_atom width Always = []
rows_of_atom width (Compare d r e) = rows_of_difference width r (expanded (difference_of d r e))

-- the rows of a guard, before they are tightened
abbrev pub rows_of_guard : ℕ → List Atom → List Form
rows_of_guard width [] = []
rows_of_guard width (a ∷ atoms) = rows_of_atom width a ++ rows_of_guard width atoms

-- the rows after tightening, in order
abbrev pub all_tightened : List Form → List Form
all_tightened [] = []
all_tightened (f ∷ rows) = tightened f ++ all_tightened rows

-- the rows of a rule
abbrev pub rows_of : Rule → List Form
rows_of r = all_tightened (rows_of_guard (unknowns_of r) r.guard)

-- the new values over this many unknowns: a nonlinear place has an unknown of its own, and the first of these has the
-- number k
abbrev pub new_values_from : ℕ → ℕ → List Polynomial → List Form
new_values_from width k [] = []
new_values_from width k (p ∷ ps) =
    if is_nonlinear p then linear_form width (variable_form k) ∷ new_values_from width (suc k) ps
    else linear_form width p ∷ new_values_from width k ps

-- the new value of each place, an affine form in the unknowns
abbrev pub new_values_of : Rule → List Form
new_values_of r = new_values_from (unknowns_of r) (r.left + r.free) (polys_of r)

-- a prepared rule, as plain data
pub record Prepared : Type 0 where
  pub left : ℕ
  pub unknowns : ℕ
  pub rows : List Form
  pub new_values : List Form
  pub nonlinear : List Bool
  pub polys : List Polynomial

-- the prepared rule of a rule
abbrev pub prepared : Rule → Prepared
prepared r = record {
  left = r.left;
  unknowns = unknowns_of r;
  rows = rows_of r;
  new_values = new_values_of r;
  nonlinear = nonlinear_of r;
  polys = polys_of r;
}
