-- If a guard holds, the values of the variables and of the nonlinear updates are a point of the rows.
use Rattle.std.proofs.Common.{◌≡◌, ℕ, zero, suc, ◌+◌, ◌<◌, ◌≤◌, List, [], ◌∷◌, ◌++◌, Bool, true, false, length, map}
use Rattle.std.proofs.Common.{get_or, refl, ap, sym, ◌∙◌, subst, arith, if◌then◌else◌}
use Rattle.std.specs.Prelude.{ℤ, pos, ◌+ℤ◌, ◌-ℤ◌, ◌*ℤ◌, neg_ℤ, ◌≤ℤ◌, ◌<ℤ◌}
use Rattle.std.specs.List.{All, AllByRecursion}
use Rattle.std.proofs.lemmas.Int.{ints}
use Rattle.std.proofs.lemmas.List.{append_assoc, length-append, get_or_at}
use Rattle.std.proofs.lemmas.Bool.Decides.{nat_tests}
use Rattle.int_laws.proofs.RingLaws.{neg-mul_ℤ}
use Rattle.poly_terms.specs.model.Terms.{Term, value}
use Rattle.poly_terms.specs.model.Programs.{Relation, AtLeast, MoreThan, AtMost, LessThan, EqualTo, Related, Atom}
use Rattle.poly_terms.specs.model.Programs.{Always, Compare}
use Rattle.poly_terms.specs.model.Programs.{AtomHolds, GuardHolds, Rule}
use Rattle.poly_terms.specs.model.Polynomials.{Polynomial, degree_of}
use Rattle.poly_terms.specs.linear_forms.Forms.{Form, at, list_dot, form_value}
use Rattle.poly_terms.specs.linear_forms.Points.{Meets, IsPoint}
use Rattle.poly_terms.specs.Checked.{ReadsBelow}
use Rattle.poly_terms.specs.Expanding.{expanded, variable_form}
use Rattle.poly_terms.specs.AffineForms.{linear_form}
use Rattle.poly_terms.proofs.Values.{expanded-value}
use Rattle.poly_terms.proofs.RowLaws.{linear_form-value}
use Rattle.poly_terms.proofs.VariableLaws.{variables-expanded, variables-more, value-append_right}
use Rattle.its_model.specs.Valid.{difference_of, IsValidAtom, IsValidTerm}
use Rattle.guard_prep.specs.Tightening.{tightened}
use Rattle.guard_prep.specs.Prepared.{is_nonlinear, count_true, opposite_form, rows_by, rows_of_atom, rows_of_guard}
use Rattle.guard_prep.specs.Prepared.{all_tightened, rows_of, new_values_from, new_values_of, unknowns_of}
use Rattle.guard_prep.specs.Laws.{IsPreparable, IsLinear, LinearPartHolds, nonlinear_values, point_of, GuardsGivePoints}
use Rattle.guard_prep.proofs.TighteningLaws.{tightened-keeps}

-- each row is satisfied at integers z
abbrev pub AreMet : (ℕ → ℤ) → List Form → Type 0
AreMet z rows = AllByRecursion (λ r. pos 0 ≤ℤ form_value r z (pos 1)) rows

-- if two lists of rows are satisfied, so are the appended rows
met-append : (z : ℕ → ℤ) (xs ys : List Form) → AreMet z xs → AreMet z ys → AreMet z (xs ++ ys)
met-append z [] ys h k = k
met-append z (x ∷ xs) ys h k = (h.0, met-append z xs ys h.1 k)

-- rows that are satisfied one after the other are satisfied at every position
pub met-meets : (z : ℕ → ℤ) (rows : List Form) → AreMet z rows → Meets rows z (pos 1)
met-meets z rows h = record { each = each rows h }
  where
    each : (rows : List Form) → AreMet z rows → All (λ r. pos 0 ≤ℤ form_value r z (pos 1)) rows
    each [] h k d l = absurd (omega arith)
    each (r ∷ rows) h zero d l = h.0
    each (r ∷ rows) h (suc k) d l = each rows h.1 k d (omega arith)

-- rows that are satisfied at every position are satisfied one after the other
pub meets-met : (z : ℕ → ℤ) (rows : List Form) → Meets rows z (pos 1) → AreMet z rows
meets-met z rows m = each rows m.each
  where
    each : (rows : List Form) → All (λ r. pos 0 ≤ℤ form_value r z (pos 1)) rows → AreMet z rows
    each [] h = tt
    each (r ∷ rows) h = (h 0 r (omega arith), each rows (λ k d l. h (suc k) d (omega arith)))

-- if rows are satisfied, so are the tightened rows
pub met-tightened : (z : ℕ → ℤ) (rows : List Form) → AreMet z rows → AreMet z (all_tightened rows)
met-tightened z [] h = tt
met-tightened z (f ∷ rows) h =
    met-append z (tightened f) (all_tightened rows) (meets-met z (tightened f) ((tightened-keeps f z).0 h.0)) (met-tightened z rows h.1)

-- the negated form has the negated value
pub opposite-value : (f : Form) (z : ℕ → ℤ) (d : ℤ) → form_value (opposite_form f) z d ≡ neg_ℤ (form_value f z d)
opposite-value f z d = both _ _ _ _ (dot f.coefs z) (neg-mul_ℤ f.constant d)
  where
    both : (a b x y : ℤ) → a ≡ neg_ℤ x → b ≡ neg_ℤ y → a +ℤ b ≡ neg_ℤ (x +ℤ y)
    both a b x y e g = omega (arith, ints, e, g)

    dot : (coefs : List ℤ) (z : ℕ → ℤ) → list_dot (map neg_ℤ coefs) z ≡ neg_ℤ (list_dot coefs z)
    dot [] z = refl
    dot (a ∷ coefs) z = both _ _ _ _ (neg-mul_ℤ a (z 0)) (dot coefs (λ k. z (suc k)))

-- the variables of a difference are those of its sides
pub reads-difference : (n : ℕ) (d : Term) (r : Relation) (e : Term) → ReadsBelow n d → ReadsBelow n e → ReadsBelow n (difference_of d r e)
reads-difference n d AtLeast e h k = (h, k)
reads-difference n d MoreThan e h k = ((h, k), tt)
reads-difference n d AtMost e h k = (k, h)
reads-difference n d LessThan e h k = ((k, h), tt)
reads-difference n d EqualTo e h k = (h, k)

-- if a comparison holds, its rows are satisfied, for a form with the difference's value
rows-hold : (d : Term) (r : Relation) (e : Term) (env : List ℤ) (f : Form) (z : ℕ → ℤ) → Related r (value d env) (value e env)
    → form_value f z (pos 1) ≡ value (difference_of d r e) env → AreMet z (rows_by r f)
rows-hold d AtLeast e env f z h v = (from _ _ _ v h, tt)
  where
    from : (w x y : ℤ) → w ≡ x -ℤ y → y ≤ℤ x → pos 0 ≤ℤ w
    from w x y e l = omega (arith, ints, e, l)
rows-hold d MoreThan e env f z h v = (from _ _ _ v h, tt)
  where
    from : (w x y : ℤ) → w ≡ (x -ℤ y) -ℤ pos 1 → y <ℤ x → pos 0 ≤ℤ w
    from w x y e l = omega (arith, ints, e, l)
rows-hold d AtMost e env f z h v = (from _ _ _ v h, tt)
  where
    from : (w x y : ℤ) → w ≡ y -ℤ x → x ≤ℤ y → pos 0 ≤ℤ w
    from w x y e l = omega (arith, ints, e, l)
rows-hold d LessThan e env f z h v = (from _ _ _ v h, tt)
  where
    from : (w x y : ℤ) → w ≡ (y -ℤ x) -ℤ pos 1 → x <ℤ y → pos 0 ≤ℤ w
    from w x y e l = omega (arith, ints, e, l)
rows-hold d EqualTo e env f z h v = (from _ _ _ v h, (opposite _ _ _ _ (opposite-value f z (pos 1)) v h, tt))
  where
    from : (w x y : ℤ) → w ≡ x -ℤ y → x ≡ y → pos 0 ≤ℤ w
    from w x y e l = omega (arith, ints, e, l)

    opposite : (u w x y : ℤ) → u ≡ neg_ℤ w → w ≡ x -ℤ y → x ≡ y → pos 0 ≤ℤ u
    opposite u w x y g e l = omega (arith, ints, g, e, l)

-- a polynomial that isn't nonlinear has degree at most 1
not-nonlinear : (p : Polynomial) → is_nonlinear p ≡ false → degree_of p ≤ 1
not-nonlinear p e = grind (arith, nat_tests)

-- the linear form of a linear expression has the expression's value, also if more values follow
pub form-value : (w : ℕ) (t : Term) (env more : List ℤ) → length env ≤ w → ReadsBelow (length env) t → is_nonlinear (expanded t) ≡ false
    → form_value (linear_form w (expanded t)) (at (env ++ more)) (pos 1) ≡ value t env
form-value w t env more l h b =
    (linear_form-value w (expanded t) (variables-more (length env) w (expanded t) l (variables-expanded (length env) t h)) (not-nonlinear (expanded t) b)).each (env ++ more)
    ∙ (expanded-value t (env ++ more) ∙ value-append_right t env more h)

-- if an atom holds or isn't linear, its rows are satisfied
atom-met : (w : ℕ) (env more : List ℤ) (a : Atom) → length env ≤ w → IsValidAtom (length env) a → (IsLinear a → AtomHolds env a)
    → AreMet (at (env ++ more)) (rows_of_atom w a)
atom-met w env more Always l v h = tt
atom-met w env more (Compare d r e) l v h = go (is_nonlinear (expanded (difference_of d r e))) refl
  where
    go : (b : Bool) → is_nonlinear (expanded (difference_of d r e)) ≡ b
        → AreMet (at (env ++ more)) (if b then [] else rows_by r (linear_form w (expanded (difference_of d r e))))
    go true g = tt
    go false g =
        rows-hold d r e env (linear_form w (expanded (difference_of d r e))) (at (env ++ more)) (h g)
        (form-value w (difference_of d r e) env more l (reads-difference (length env) d r e v.left v.right) g)

-- if the linear part of a guard holds, its rows are satisfied, whatever values follow
pub guard-met : (w : ℕ) (env more : List ℤ) (atoms : List Atom) → length env ≤ w → AllByRecursion (IsValidAtom (length env)) atoms
    → LinearPartHolds env atoms → AreMet (at (env ++ more)) (rows_of_guard w atoms)
guard-met w env more [] l v h = tt
guard-met w env more (a ∷ atoms) l v h =
    met-append (at (env ++ more)) (rows_of_atom w a) (rows_of_guard w atoms) (atom-met w env more a l v.0 (h 0 a (omega arith)))
    (guard-met w env more atoms l v.1 (λ k d i. h (suc k) d (omega arith)))

-- the new values at the point are the values of the updates; `front` are the values before those of the remaining
-- nonlinear updates
new_values-values : (w k : ℕ) (us : List Term) (env front : List ℤ) (z : List ℤ)
    → ((t : Term) → ReadsBelow (length env) t → value t z ≡ value t env) → AllByRecursion (IsValidTerm (length env)) us
    → z ≡ front ++ nonlinear_values us env → length front ≡ k → length env ≤ w → k + count_true (map is_nonlinear (map expanded us)) ≤ w
    → map (λ f. form_value f (at z) (pos 1)) (new_values_from w k (map expanded us)) ≡ map (λ u. value u env) us
new_values-values w k [] env front z same v e l m n = refl
new_values-values w k (u ∷ us) env front z same v e l m n = go (is_nonlinear (expanded u)) refl e n (λ j fr. new_values-values w j us env fr z same v.1)
  where
    own : k < w → z ≡ front ++ value u env ∷ nonlinear_values us env → form_value (linear_form w (variable_form k)) (at z) (pos 1) ≡ value u env
    own h f =
        (linear_form-value w (variable_form k) ((h, tt), tt) (omega arith)).each z
        ∙ (times_one (get_or z k (pos 0)) ∙ (ap (λ (y : List ℤ). get_or y k (pos 0)) f ∙ get_or_at front (value u env) (nonlinear_values us env) (pos 0) k l))
      where
        times_one : (x : ℤ) → pos 1 *ℤ (x *ℤ pos 1) +ℤ pos 0 ≡ x
        times_one x = omega (arith, ints)

    linear : is_nonlinear (expanded u) ≡ false → form_value (linear_form w (expanded u)) (at z) (pos 1) ≡ value u env
    linear b =
        (linear_form-value w (expanded u) (variables-more (length env) w (expanded u) m (variables-expanded (length env) u v.0.variables)) (not-nonlinear (expanded u) b)).each z
        ∙ (expanded-value u z ∙ same u v.0.variables)

    go : (b : Bool) → is_nonlinear (expanded u) ≡ b
        → z ≡ front ++ (if b then value u env ∷ nonlinear_values us env else nonlinear_values us env)
        → k + count_true (b ∷ map is_nonlinear (map expanded us)) ≤ w
        → ((j : ℕ) (fr : List ℤ) → z ≡ fr ++ nonlinear_values us env → length fr ≡ j → length env ≤ w → j + count_true (map is_nonlinear (map expanded us)) ≤ w
        → map (λ f. form_value f (at z) (pos 1)) (new_values_from w j (map expanded us)) ≡ map (λ t. value t env) us)
        → map (λ f. form_value f (at z) (pos 1))
        (if b then linear_form w (variable_form k) ∷ new_values_from w (suc k) (map expanded us) else linear_form w (expanded u) ∷ new_values_from w k (map expanded us))
        ≡ value u env ∷ map (λ t. value t env) us
    go true b f c ih = λ i. own (omega (arith, c)) f i
        ∷ ih (suc k) (front ++ value u env ∷ []) (f ∙ sym (append_assoc front (value u env ∷ []) (nonlinear_values us env)))
        (length-append front (value u env ∷ []) ∙ (let g : length front + 1 ≡ suc k = omega (arith, l) in g)) m (omega (arith, c)) i
    go false b f c ih = λ i. linear b i ∷ ih k front f l m c i

-- there are as many values of nonlinear updates as such updates
pub nonlinear-length : (us : List Term) (env : List ℤ) → length (nonlinear_values us env) ≡ count_true (map is_nonlinear (map expanded us))
nonlinear-length [] env = refl
nonlinear-length (u ∷ us) env = go (is_nonlinear (expanded u)) (nonlinear-length us env)
  where
    go : (b : Bool) → length (nonlinear_values us env) ≡ count_true (map is_nonlinear (map expanded us))
        → length (if b then value u env ∷ nonlinear_values us env else nonlinear_values us env) ≡ count_true (b ∷ map is_nonlinear (map expanded us))
    go true ih = ap suc ih
    go false ih = ih

-- if a guard holds, the values of the variables and of the nonlinear updates are a point of the rows
pub guards-give-points : GuardsGivePoints
guards-give-points = record { point = point; new_values = new_values }
  where
    point : (r : Rule) (env : List ℤ) → IsPreparable r → length env ≡ r.left + r.free → GuardHolds env r.guard → IsPoint (rows_of r) (at (point_of r env)) (pos 1)
    point r env h l g = record {
      denominator = record { lt = tt };
      meets = met-meets (at (point_of r env)) (rows_of r) (met-tightened (at (point_of r env)) (rows_of_guard (unknowns_of r) r.guard)
          (guard-met (unknowns_of r) env (nonlinear_values r.updates env) r.guard (omega (arith, l))
          (subst (λ (n : ℕ). AllByRecursion (IsValidAtom n) r.guard) (sym l) h.guard) (λ k d i _. g k d i)));
    }

    new_values : (r : Rule) (env : List ℤ) → IsPreparable r → length env ≡ r.left + r.free
        → map (λ f. form_value f (at (point_of r env)) (pos 1)) (new_values_of r) ≡ map (λ u. value u env) r.updates
    new_values r env h l =
        new_values-values (unknowns_of r) (r.left + r.free) r.updates env env (point_of r env) (λ t k. value-append_right t env (nonlinear_values r.updates env) k)
        (subst (λ (n : ℕ). AllByRecursion (IsValidTerm n) r.updates) (sym l) h.updates) refl l (omega (arith, l)) (omega arith)
