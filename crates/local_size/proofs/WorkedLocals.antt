-- The worked values of places hold.
use Rattle.std.proofs.Common.{◌≡◌, ℕ, zero, suc, ◌<◌, ◌≤◌, arith, refl, sym, subst, true, List, [], ◌∷◌, ◌++◌}
use Rattle.std.specs.Prelude.{ℤ, pos, negsuc, ◌≤ℤ◌}
use Rattle.std.specs.List.{All}
use Rattle.std.proofs.lemmas.Int.{ints}
use Rattle.std.proofs.lemmas.List.Elements.{All-nil, All-head}
use Rattle.simplex_core.specs.linear_forms.Forms.{Form, at, form_value}
use Rattle.cert_types.specs.rule_forms.Bounds.{HasNone, IsAbove, IsFirstOf, IsUnboundedRay}
use Rattle.cert_types.specs.rule_forms.Kinds.{Kind, Number, Argument, Affine, Plus, Minus, IsOfKind, kinds_at}
use Rattle.cert_types.specs.rule_forms.Laws.{HasPoint}
use Rattle.cert_types.specs.rule_forms.Worked.{line_form, falling_rows, falling, rising}
use Rattle.cert_types.proofs.rule_forms.Rays.{unbounded-has-none}
use Rattle.cert_types.proofs.rule_forms.Worked.{worked}
use Rattle.poly_terms.specs.model.Terms.{Variable}
use Rattle.guard_prep.specs.Prepared.{prepared, rows_of}
use Rattle.guard_prep.specs.Tightening.{divisor_of}
use Rattle.guard_prep.specs.WorkedRows.{product}
use Rattle.local_size.specs.Places.{is_polynomial_at}
use Rattle.local_size.specs.WorkedLocals.{falling_rule, updated, PolynomialsAreWorkedOut, KindsOfPlacesAreWorkedOut}
use Rattle.local_size.specs.WorkedLocals.{SidesAreWorkedOut}
use Rattle.local_size.specs.WorkedLocals.{FirstSideBoundsAreWorkedOut, UnboundedSidesAreWorkedOut, LocalValuesAreWorkedOut}
use Rattle.local_size.proofs.FirstSideBounds.{fails}

-- the worked values of polynomials hold
polynomials : PolynomialsAreWorkedOut
polynomials = record {
  polynomial = refl;
  free_cancelled = refl;
  reads_free = refl;
  straight = refl;
  square_cancelled = refl;
  first_place = refl;
  second_place = refl;
  no_place = refl;
  past = refl;
}

-- the worked values of kinds hold
kinds : KindsOfPlacesAreWorkedOut
kinds = record { straight = refl; nonlinear = refl; first_place = refl; second_place = refl }

-- the worked values of sides hold
sides : SidesAreWorkedOut
sides = record { up = refl; low = refl }

-- the only row of the falling rule
rows-are : rows_of falling_rule ≡ falling_rows
unfolding divisor_of
rows-are = refl

-- the update of the falling rule has degree 1
straight : ¬ (is_polynomial_at (prepared falling_rule) 1 ≡ true)
straight = fails (is_polynomial_at (prepared falling_rule) 1) refl

-- equal lists have equal first elements
head-same : (x y : Kind) (xs ys : List Kind) → x ∷ xs ≡ y ∷ ys → x ≡ y
head-same x y xs ys e = cc

-- if a constant is a bound, an argument isn't the first side bound
argument-later : (kind : Kind) (before behind : List Kind) → kinds_at 1 1 ≡ before ++ kind ∷ behind
    → All (HasNone falling_rows 1 rising) before → IsOfKind 1 kind (line_form (pos 1) (pos 0)) 1 → ⊥
argument-later kind [] behind e none is =
    let same : Number ≡ kind = head-same Number kind (Argument 1 Plus ∷ Argument 1 Minus ∷ Affine ∷ []) behind e in
    one (subst (λ (k : Kind). IsOfKind 1 k (line_form (pos 1) (pos 0)) 1) (sym same) is 0)
  where
    one : pos 1 ≡ pos 0 → ⊥
    one e = omega (arith, ints, e)
argument-later kind (b ∷ before) behind e none is =
    let same : Number ≡ b =
    head-same Number b (Argument 1 Plus ∷ Argument 1 Minus ∷ Affine ∷ []) (before ++ kind ∷ behind) e in
    worked.first.some_number
    (subst (λ (k : Kind). HasNone falling_rows 1 rising k) (sym same)
    (All-head (HasNone falling_rows 1 rising) b before none))

-- the worked values of first side bounds hold
first : FirstSideBoundsAreWorkedOut
first = record {
  up = (
    straight,
    subst (λ (rows : List Form). IsFirstOf rows 1 falling (kinds_at 1 1) (line_form (pos 1) (pos 0)) 1) (sym rows-are)
        worked.first.up,
  );
  low = (
    straight,
    subst (λ (rows : List Form). IsFirstOf rows 1 rising (kinds_at 1 1) (line_form (pos 0) (pos 0)) 1) (sym rows-are)
        worked.first.low,
  );
  too_low = λ h. worked.bounds.number
      (subst (λ (rows : List Form). IsAbove rows falling (line_form (pos 0) (pos 5)) 1) rows-are h.1.above);
  later = λ h. argument-later h.1.kind h.1.before h.1.behind h.1.order
      (subst (λ (rows : List Form). All (HasNone rows 1 rising) h.1.before) rows-are h.1.none) h.1.of_kind;
  no_polynomial = straight;
  polynomial = refl;
  reads_free = fails (is_polynomial_at (updated product) 1) refl;
  form_of_square = λ h. h.0 refl;
}

-- the empty list of rows has a point
no-rows : HasPoint []
no-rows = record {
  z = λ j. pos 0;
  d = pos 1;
  point = record {
    denominator = omega (arith, ints);
    meets = record { each = All-nil (λ r. pos 0 ≤ℤ form_value r (λ j. pos 0) (pos 1)) };
  };
}

-- a form in one unknown is affine
line-affine : (a b : ℤ) → IsOfKind 1 Affine (line_form a b) 1
line-affine a b = λ u l. past u l
  where
    past : (u : ℕ) → 1 ≤ u → at (a ∷ []) u ≡ pos 0
    past zero l = absurd (omega (arith, l))
    past (suc u) l = refl

-- no side of the falling rule is unbounded
not-unbounded : (w g : Form) → IsOfKind 1 Affine g 1 → IsAbove falling_rows w g 1 → HasPoint (rows_of falling_rule)
    → (z : ℕ → ℤ) → IsUnboundedRay (rows_of falling_rule) 1 w z → ⊥
not-unbounded w g is above point z ray =
    (unbounded-has-none (rows_of falling_rule) 1 w z point ray).each g 1 (omega arith) is
    (subst (λ (rows : List Form). IsAbove rows w g 1) (sym rows-are) above)

-- the worked values of unbounded sides hold
unbounded : UnboundedSidesAreWorkedOut
unbounded = record {
  up = record {
    asked = fails (is_polynomial_at (updated (Variable 1)) 1) refl;
    point = no-rows;
    z = at (pos 0 ∷ pos 1 ∷ []);
    ray = worked.rays.unbounded;
  };
  low = record {
    asked = fails (is_polynomial_at (updated (Variable 1)) 1) refl;
    point = no-rows;
    z = at (pos 0 ∷ negsuc 0 ∷ []);
    ray = record {
      ray = record { each = All-nil (λ r. pos 0 ≤ℤ form_value r (at (pos 0 ∷ negsuc 0 ∷ [])) (pos 0)) };
      still = still;
      rises = omega (arith, ints);
    };
  };
  bounded_up = λ h. not-unbounded falling (line_form (pos 1) (pos 0)) (line-affine (pos 1) (pos 0)) worked.bounds.argument
      h.point h.z h.ray;
  bounded_low = λ h. not-unbounded rising (line_form (pos 0) (pos 0)) (line-affine (pos 0) (pos 0)) worked.first.low.above
      h.point h.z h.ray;
  polynomial = λ h. h.asked refl;
}
  where
    still : (j : ℕ) → j < 1 → at (pos 0 ∷ negsuc 0 ∷ []) j ≡ pos 0
    still zero l = refl
    still (suc j) l = absurd (omega (arith, l))

-- all worked values of places hold
pub values-worked : LocalValuesAreWorkedOut
values-worked = record { polynomials = polynomials; kinds = kinds; sides = sides; first = first; unbounded = unbounded }
