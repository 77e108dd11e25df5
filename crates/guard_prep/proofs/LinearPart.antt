-- At integers, the rows of a rule hold exactly if the linear part of its guard holds.
use Rattle.std.proofs.Common.{◌≡◌, ℕ, zero, suc, ◌+◌, ◌≤◌, List, [], ◌∷◌, ◌++◌, Bool, length, sym, subst, arith}
use Rattle.std.proofs.Common.{if◌then◌else◌}
use Rattle.std.specs.Prelude.{ℤ, pos, ◌-ℤ◌, neg_ℤ, ◌≤ℤ◌, ◌<ℤ◌}
use Rattle.std.specs.List.{AllByRecursion}
use Rattle.std.proofs.lemmas.Int.{ints}
use Rattle.poly_terms.specs.model.Terms.{Term, value}
use Rattle.poly_terms.specs.model.Programs.{Relation, AtLeast, MoreThan, AtMost, LessThan, EqualTo, Related, Atom}
use Rattle.poly_terms.specs.model.Programs.{Always, Compare}
use Rattle.poly_terms.specs.model.Programs.{AtomHolds, Rule}
use Rattle.poly_terms.specs.linear_forms.Forms.{Form, at, form_value}
use Rattle.poly_terms.specs.linear_forms.Points.{IsPoint}
use Rattle.poly_terms.specs.Expanding.{expanded}
use Rattle.poly_terms.specs.AffineForms.{linear_form}
use Rattle.its_model.specs.Valid.{difference_of, IsValidAtom}
use Rattle.guard_prep.specs.Tightening.{tightened}
use Rattle.guard_prep.specs.Prepared.{rows_by, rows_of_atom, rows_of_guard, all_tightened, rows_of, unknowns_of}
use Rattle.guard_prep.specs.Laws.{IsPreparable, IsLinear, LinearPartHolds, RowsAreTheLinearPart}
use Rattle.guard_prep.proofs.TighteningLaws.{tightened-keeps}
use Rattle.guard_prep.proofs.PointLaws.{AreMet, met-meets, meets-met, met-tightened, opposite-value, reads-difference}
use Rattle.guard_prep.proofs.PointLaws.{form-value, guard-met}

-- if appended rows are satisfied, so is each part
met-front : (z : ℕ → ℤ) (xs ys : List Form) → AreMet z (xs ++ ys) → AreMet z xs
met-front z [] ys h = tt
met-front z (x ∷ xs) ys h = (h.0, met-front z xs ys h.1)

met-behind : (z : ℕ → ℤ) (xs ys : List Form) → AreMet z (xs ++ ys) → AreMet z ys
met-behind z [] ys h = h
met-behind z (x ∷ xs) ys h = met-behind z xs ys h.1

-- if the tightened rows are satisfied, so are the rows
met-before : (z : ℕ → ℤ) (rows : List Form) → AreMet z (all_tightened rows) → AreMet z rows
met-before z [] h = tt
met-before z (f ∷ rows) h = (
  (tightened-keeps f z).1 (met-meets z (tightened f) (met-front z (tightened f) (all_tightened rows) h)),
  met-before z rows (met-behind z (tightened f) (all_tightened rows) h),
)

-- if the rows of a comparison, of a form with the difference's value, are satisfied, the comparison holds
rows-tell : (d : Term) (r : Relation) (e : Term) (env : List ℤ) (f : Form) (z : ℕ → ℤ) → AreMet z (rows_by r f)
    → form_value f z (pos 1) ≡ value (difference_of d r e) env → Related r (value d env) (value e env)
rows-tell d AtLeast e env f z m v = from _ _ _ v m.0
  where
    from : (w x y : ℤ) → w ≡ x -ℤ y → pos 0 ≤ℤ w → y ≤ℤ x
    from w x y e l = omega (arith, ints, e, l)
rows-tell d MoreThan e env f z m v = from _ _ _ v m.0
  where
    from : (w x y : ℤ) → w ≡ (x -ℤ y) -ℤ pos 1 → pos 0 ≤ℤ w → y <ℤ x
    from w x y e l = omega (arith, ints, e, l)
rows-tell d AtMost e env f z m v = from _ _ _ v m.0
  where
    from : (w x y : ℤ) → w ≡ y -ℤ x → pos 0 ≤ℤ w → x ≤ℤ y
    from w x y e l = omega (arith, ints, e, l)
rows-tell d LessThan e env f z m v = from _ _ _ v m.0
  where
    from : (w x y : ℤ) → w ≡ (y -ℤ x) -ℤ pos 1 → pos 0 ≤ℤ w → x <ℤ y
    from w x y e l = omega (arith, ints, e, l)
rows-tell d EqualTo e env f z m v = from _ _ _ _ (opposite-value f z (pos 1)) v m.0 m.1.0
  where
    from : (u w x y : ℤ) → u ≡ neg_ℤ w → w ≡ x -ℤ y → pos 0 ≤ℤ w → pos 0 ≤ℤ u → x ≡ y
    from u w x y g e l k = omega (arith, ints, g, e, l, k)

-- a linear atom holds if its rows are satisfied
atom-sound : (w : ℕ) (env more : List ℤ) (a : Atom) → length env ≤ w → IsValidAtom (length env) a
    → AreMet (at (env ++ more)) (rows_of_atom w a) → IsLinear a → AtomHolds env a
atom-sound w env more Always l v m g = tt
atom-sound w env more (Compare d r e) l v m g =
    rows-tell d r e env (linear_form w (expanded (difference_of d r e))) (at (env ++ more))
    (subst (λ (b : Bool). AreMet (at (env ++ more)) (if b then [] else rows_by r (linear_form w (expanded (difference_of d r e))))) g m)
    (form-value w (difference_of d r e) env more l (reads-difference (length env) d r e v.left v.right) g)

guard-sound : (w : ℕ) (env more : List ℤ) (atoms : List Atom) → length env ≤ w → AllByRecursion (IsValidAtom (length env)) atoms
    → AreMet (at (env ++ more)) (rows_of_guard w atoms) → LinearPartHolds env atoms
guard-sound w env more [] l v m k d i = absurd (omega arith)
guard-sound w env more (a ∷ atoms) l v m zero d i = atom-sound w env more a l v.0 (met-front (at (env ++ more)) (rows_of_atom w a) (rows_of_guard w atoms) m)
guard-sound w env more (a ∷ atoms) l v m (suc k) d i =
    guard-sound w env more atoms l v.1 (met-behind (at (env ++ more)) (rows_of_atom w a) (rows_of_guard w atoms) m) k d (omega arith)

-- at integers, the rows of a rule hold exactly if the linear atoms of its guard hold
pub rows-are-the-linear-part : RowsAreTheLinearPart
rows-are-the-linear-part = record { each = λ r env more h l. (told r env more h l, met r env more h l) }
  where
    valid : (r : Rule) (env : List ℤ) → IsPreparable r → length env ≡ r.left + r.free → AllByRecursion (IsValidAtom (length env)) r.guard
    valid r env h l = subst (λ (n : ℕ). AllByRecursion (IsValidAtom n) r.guard) (sym l) h.guard

    told : (r : Rule) (env more : List ℤ) → IsPreparable r → length env ≡ r.left + r.free → IsPoint (rows_of r) (at (env ++ more)) (pos 1) → LinearPartHolds env r.guard
    told r env more h l p =
        guard-sound (unknowns_of r) env more r.guard (omega (arith, l)) (valid r env h l)
        (met-before (at (env ++ more)) (rows_of_guard (unknowns_of r) r.guard) (meets-met (at (env ++ more)) (rows_of r) p.meets))

    met : (r : Rule) (env more : List ℤ) → IsPreparable r → length env ≡ r.left + r.free → LinearPartHolds env r.guard → IsPoint (rows_of r) (at (env ++ more)) (pos 1)
    met r env more h l g = record {
      denominator = record { lt = tt };
      meets = met-meets (at (env ++ more)) (rows_of r) (met-tightened (at (env ++ more)) (rows_of_guard (unknowns_of r) r.guard)
          (guard-met (unknowns_of r) env more r.guard (omega (arith, l)) (valid r env h l) g));
    }
