-- Bounds on the numbers of rows and new values, and on how many there are.
use Rattle.std.proofs.Common.{◌≡◌, ℕ, zero, suc, ◌+◌, ◌*◌, ◌/◌, ◌≤◌, List, [], ◌∷◌, ◌++◌, Bool, true, false, length}
use Rattle.std.proofs.Common.{map, refl, ap, sym, ◌∙◌, subst, arith, if◌then◌else◌}
use Rattle.std.specs.Prelude.{ℤ, pos, negsuc, neg_ℤ, nat_abs, int_le, int_div, None}
use Rattle.std.specs.Int.{int_div_euclid}
use Rattle.std.specs.List.{AllByRecursion, range_with_len}
use Rattle.std.proofs.lemmas.List.{length-map, length-append}
use Rattle.std.proofs.Math.Nat.{div-le_self}
use Rattle.poly_terms.specs.model.Limits.{coefficient_limit}
use Rattle.poly_terms.specs.model.Terms.{Term}
use Rattle.poly_terms.specs.model.Programs.{Relation, AtLeast, MoreThan, AtMost, LessThan, EqualTo, Atom, Always}
use Rattle.poly_terms.specs.model.Programs.{Compare, Rule}
use Rattle.poly_terms.specs.model.Polynomials.{Polynomial}
use Rattle.poly_terms.specs.linear_forms.Forms.{Form}
use Rattle.poly_terms.specs.Expanding.{expanded, variable_form}
use Rattle.poly_terms.specs.Faults.{first_fault}
use Rattle.poly_terms.specs.Ordered.{IsAscending, IsBounded}
use Rattle.poly_terms.specs.AffineForms.{coefficient, linear_form}
use Rattle.poly_terms.proofs.OrderLaws.{expanded-ordered}
use Rattle.poly_terms.proofs.AnswerLaws.{expanded-small}
use Rattle.poly_terms.proofs.WideLaws.{nat_abs-neg}
use Rattle.poly_terms.proofs.VariableLaws.{coefficient-bounded}
use Rattle.its_model.specs.Valid.{difference_of, IsValidAtom, IsValidTerm}
use Rattle.guard_prep.specs.Tightening.{divisor_of, tightened_by, tightened}
use Rattle.guard_prep.specs.Prepared.{is_nonlinear, count_true, opposite_form, rows_by, rows_of_atom, rows_of_guard}
use Rattle.guard_prep.specs.Prepared.{all_tightened, new_values_from, unknowns_of}
use Rattle.guard_prep.specs.Laws.{IsPreparable, IsSmallForm, RowsAreSmall}

-- appended lists of small forms are small
small-append : (w : ℕ) (xs ys : List Form) → AllByRecursion (IsSmallForm w) xs → AllByRecursion (IsSmallForm w) ys → AllByRecursion (IsSmallForm w) (xs ++ ys)
small-append w [] ys h k = k
small-append w (x ∷ xs) ys h k = (h.0, small-append w xs ys h.1 k)

-- the linear form of a small polynomial is small
pub linear-small : (w : ℕ) (p : Polynomial) → IsAscending p → IsBounded coefficient_limit p → IsSmallForm w (linear_form w p)
linear-small w p a b = record {
  width = length-map (range_with_len 0 w) (λ (i : ℕ). coefficient (i ∷ []) p) ∙ range-length 0 w;
  coefs = each (range_with_len 0 w);
  constant = coefficient-bounded coefficient_limit [] p a b;
}
  where
    range-length : (x n : ℕ) → length (range_with_len x n) ≡ n
    range-length x zero = refl
    range-length x (suc n) = ap suc (range-length (x + 1) n)

    each : (is : List ℕ) → AllByRecursion (λ z. nat_abs z ≤ coefficient_limit) (map (λ (i : ℕ). coefficient (i ∷ []) p) is)
    each [] = tt
    each (i ∷ is) = (coefficient-bounded coefficient_limit (i ∷ []) p a b, each is)

-- the linear form of an expression without a fault is small
pub expanded-form-small : (w : ℕ) (t : Term) → first_fault t ≡ None → IsSmallForm w (linear_form w (expanded t))
expanded-form-small w t h = linear-small w (expanded t) (expanded-ordered t).ascending (expanded-small t h).coefficients

-- the negation of a small form is small
pub opposite-form-small : (w : ℕ) (f : Form) → IsSmallForm w f → IsSmallForm w (opposite_form f)
opposite-form-small w f h = record {
  width = length-map f.coefs neg_ℤ ∙ h.width;
  coefs = each f.coefs h.coefs;
  constant = subst (λ (n : ℕ). n ≤ coefficient_limit) (sym (nat_abs-neg f.constant)) h.constant;
}
  where
    each : (xs : List ℤ) → AllByRecursion (λ z. nat_abs z ≤ coefficient_limit) xs → AllByRecursion (λ z. nat_abs z ≤ coefficient_limit) (map neg_ℤ xs)
    each [] k = tt
    each (x ∷ xs) k = (subst (λ (n : ℕ). n ≤ coefficient_limit) (sym (nat_abs-neg x)) k.0, each xs k.1)

-- a quotient by a number other than 0 is at most the number in absolute value
quotient-small : (a : ℤ) (k : ℕ) → nat_abs (int_div a (pos (suc k))) ≤ nat_abs a
quotient-small (pos a) k = div-le_self a (suc k)
quotient-small (negsuc a) k = subst (λ (n : ℕ). n ≤ suc a) (sym (nat_abs-neg (pos (suc a / suc k)))) (div-le_self (suc a) (suc k))

floor-small : (a : ℤ) (k : ℕ) → nat_abs (int_div_euclid a (pos (suc k))) ≤ nat_abs a
floor-small (pos a) k = div-le_self a (suc k)
floor-small (negsuc a) k = omega (arith, div-le_self a (suc k))

-- a tightened small form is small
tightened-small : (w : ℕ) (f : Form) → IsSmallForm w f → AllByRecursion (IsSmallForm w) (tightened f)
tightened-small w f h = go (divisor_of f.coefs)
  where
    each : (k : ℕ) (xs : List ℤ) → AllByRecursion (λ z. nat_abs z ≤ coefficient_limit) xs
        → AllByRecursion (λ z. nat_abs z ≤ coefficient_limit) (map (λ a. int_div a (pos (suc k))) xs)
    each k [] l = tt
    each k (x ∷ xs) l = (omega (arith, quotient-small x k, l.0), each k xs l.1)

    nothing : (b : Bool) → AllByRecursion (IsSmallForm w) (if b then [] else record { coefs = f.coefs; constant = negsuc 0 } ∷ [])
    nothing true = tt
    nothing false = (record { width = h.width; coefs = h.coefs; constant = omega arith }, tt)

    go : (g : ℕ) → AllByRecursion (IsSmallForm w) (tightened_by g f)
    go zero = nothing (int_le (pos 0) f.constant)
    go (suc k) = (
      record {
        width = length-map f.coefs (λ a. int_div a (pos (suc k))) ∙ h.width;
        coefs = each k f.coefs h.coefs;
        constant = omega (arith, floor-small f.constant k, h.constant);
      },
      tt,
    )

all-tightened-small : (w : ℕ) (rows : List Form) → AllByRecursion (IsSmallForm w) rows → AllByRecursion (IsSmallForm w) (all_tightened rows)
all-tightened-small w [] h = tt
all-tightened-small w (f ∷ rows) h = small-append w (tightened f) (all_tightened rows) (tightened-small w f h.0) (all-tightened-small w rows h.1)

-- the rows of an atom are small
rows-by-small : (w : ℕ) (r : Relation) (f : Form) → IsSmallForm w f → AllByRecursion (IsSmallForm w) (rows_by r f)
rows-by-small w AtLeast f h = (h, tt)
rows-by-small w MoreThan f h = (h, tt)
rows-by-small w AtMost f h = (h, tt)
rows-by-small w LessThan f h = (h, tt)
rows-by-small w EqualTo f h = (h, (opposite-form-small w f h, tt))

atom-small : (w n : ℕ) (a : Atom) → IsValidAtom n a → AllByRecursion (IsSmallForm w) (rows_of_atom w a)
atom-small w n Always v = tt
atom-small w n (Compare d r e) v = go (is_nonlinear (expanded (difference_of d r e)))
  where
    go : (b : Bool) → AllByRecursion (IsSmallForm w) (if b then [] else rows_by r (linear_form w (expanded (difference_of d r e))))
    go true = tt
    go false = rows-by-small w r (linear_form w (expanded (difference_of d r e))) (expanded-form-small w (difference_of d r e) v.expands)

guard-small : (w n : ℕ) (atoms : List Atom) → AllByRecursion (IsValidAtom n) atoms → AllByRecursion (IsSmallForm w) (rows_of_guard w atoms)
guard-small w n [] v = tt
guard-small w n (a ∷ atoms) v = small-append w (rows_of_atom w a) (rows_of_guard w atoms) (atom-small w n a v.0) (guard-small w n atoms v.1)

-- the new values are small
new_values-small : (w k n : ℕ) (us : List Term) → AllByRecursion (IsValidTerm n) us → AllByRecursion (IsSmallForm w) (new_values_from w k (map expanded us))
new_values-small w k n [] v = tt
new_values-small w k n (u ∷ us) v = go (is_nonlinear (expanded u)) (λ j. new_values-small w j n us v.1)
  where
    go : (b : Bool) → ((j : ℕ) → AllByRecursion (IsSmallForm w) (new_values_from w j (map expanded us)))
        → AllByRecursion (IsSmallForm w)
        (if b then linear_form w (variable_form k) ∷ new_values_from w (suc k) (map expanded us) else linear_form w (expanded u) ∷ new_values_from w k (map expanded us))
    go true ih = (linear-small w (variable_form k) (tt, tt) (omega arith, tt), ih (suc k))
    go false ih = (expanded-form-small w u v.0.expands, ih k)

-- a comparison has at most two rows
few-by : (r : Relation) (f : Form) → length (rows_by r f) ≤ 2
few-by AtLeast f = omega arith
few-by MoreThan f = omega arith
few-by AtMost f = omega arith
few-by LessThan f = omega arith
few-by EqualTo f = omega arith

few-of-atom : (w : ℕ) (a : Atom) → length (rows_of_atom w a) ≤ 2
few-of-atom w Always = omega arith
few-of-atom w (Compare d r e) = go (is_nonlinear (expanded (difference_of d r e)))
  where
    go : (b : Bool) → length {A = Form} (if b then [] else rows_by r (linear_form w (expanded (difference_of d r e)))) ≤ 2
    go true = omega arith
    go false = few-by r (linear_form w (expanded (difference_of d r e)))

few-of-guard : (w : ℕ) (atoms : List Atom) → length (rows_of_guard w atoms) ≤ 2 * length atoms
few-of-guard w [] = omega arith
few-of-guard w (a ∷ atoms) = omega (arith, length-append (rows_of_atom w a) (rows_of_guard w atoms), few-of-atom w a, few-of-guard w atoms)

one-left : (f : Form) → length (tightened f) ≤ 1
one-left f = go (divisor_of f.coefs)
  where
    nothing : (b : Bool) → length {A = Form} (if b then [] else record { coefs = f.coefs; constant = negsuc 0 } ∷ []) ≤ 1
    nothing true = omega arith
    nothing false = omega arith

    go : (g : ℕ) → length (tightened_by g f) ≤ 1
    go zero = nothing (int_le (pos 0) f.constant)
    go (suc k) = omega arith

few-tightened : (rows : List Form) → length (all_tightened rows) ≤ length rows
few-tightened [] = omega arith
few-tightened (f ∷ rows) = omega (arith, length-append (tightened f) (all_tightened rows), one-left f, few-tightened rows)

-- there are at most as many nonlinear places as places
pub count-at-most : (bs : List Bool) → count_true bs ≤ length bs
count-at-most [] = omega arith
count-at-most (true ∷ bs) = omega (arith, count-at-most bs)
count-at-most (false ∷ bs) = omega (arith, count-at-most bs)

-- a preparable rule has at most 96 unknowns
pub few-unknowns : (r : Rule) → IsPreparable r → unknowns_of r ≤ 96
few-unknowns r h =
    omega (arith, count-at-most (map is_nonlinear (map expanded r.updates)), length-map (map expanded r.updates) is_nonlinear, length-map r.updates expanded, h.few_variables, h.few_updates)

-- the rows and the new values of a rule are small and few
pub rows-are-small : RowsAreSmall
rows-are-small = record {
  rows = λ r h. all-tightened-small (unknowns_of r) (rows_of_guard (unknowns_of r) r.guard) (guard-small (unknowns_of r) (r.left + r.free) r.guard h.guard);
  new_values = λ r h. new_values-small (unknowns_of r) (r.left + r.free) (r.left + r.free) r.updates h.updates;
  few_rows = λ r h. omega (arith, few-tightened (rows_of_guard (unknowns_of r) r.guard), few-of-guard (unknowns_of r) r.guard, h.few_atoms);
  few_unknowns = few-unknowns;
}
