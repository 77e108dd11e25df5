-- The worked values of bounds on new values hold.
use Rattle.std.proofs.Common.{◌≡◌, ℕ, zero, suc, ◌<◌, ◌≤◌, ap, arith, refl, [], ◌∷◌}
use Rattle.std.specs.Prelude.{ℤ, pos, negsuc, ◌+ℤ◌, ◌*ℤ◌, nat_abs, ◌≤ℤ◌, ◌<ℤ◌}
use Rattle.std.proofs.lemmas.Int.{ints}
use Rattle.std.proofs.lemmas.List.Elements.{All-cons, All-nil, All-head}
use Rattle.linear_forms.specs.Forms.{Form, at, form_value}
use Rattle.linear_forms.specs.Sizes.{total_size}
use Rattle.linear_forms.specs.Points.{IsPoint}
use Rattle.rule_forms.specs.Kinds.{Number, Argument, Affine, Plus, Minus, IsOfKind}
use Rattle.rule_forms.specs.Bounds.{IsAbove, HasNone, WeighsAtMost, height}
use Rattle.rule_forms.proofs.Rays.{unmoved}
use Rattle.rule_forms.proofs.Weights.{argument-weighs}
use Rattle.linear_forms.proofs.int_laws.RingLaws.{zero-mul_ℤ}
use Rattle.rule_forms.specs.Worked.{line_form, falling_rows, falling, rising, KindsAreInOrder, KindsAreWorked}
use Rattle.rule_forms.specs.Worked.{BoundsAreWorked, WeightsAreWorkedOut, FirstBoundsAreWorkedOut, RaysAreWorkedOut}
use Rattle.rule_forms.specs.Worked.{LocalFormsAreWorkedOut}

-- the worked values of the order of kinds hold
order : KindsAreInOrder
order = record { second_place = refl; no_such_place = refl; no_argument = refl; nonlinear = refl; straight = refl }

-- past its end, a list of one coefficient is 0
line-past : (a : ℤ) (left u : ℕ) → 1 ≤ u → at (a ∷ []) u ≡ pos 0
line-past a left zero l = absurd (omega (arith, l))
line-past a left (suc u) l = refl

-- the worked values of kinds hold
kinds : KindsAreWorked
kinds = record {
  number = λ u. zeros u;
  argument = record { coefs = λ u. same (pos 2) u; constant = refl };
  negated = record { coefs = λ u. same (negsuc 1) u; constant = refl };
  affine = λ u l. line-past (pos 1) 1 u l;
  no_number = λ h. one (h 0);
  no_argument = λ h. one h.constant;
  wrong_scale = λ h. two_one (h.coefs 0);
  wrong_sign = λ h. one_minus (h.coefs 0);
  no_affine = λ h. one (h 1 (omega arith));
}
  where
    zeros : (u : ℕ) → at (pos 0 ∷ []) u ≡ pos 0
    zeros zero = refl
    zeros (suc u) = refl

    same : (a : ℤ) (u : ℕ) → at (a ∷ []) u ≡ at (a ∷ []) u
    same a u = refl

    one : pos 1 ≡ pos 0 → ⊥
    one e = omega (arith, ints, e)

    two_one : pos 2 ≡ pos 1 → ⊥
    two_one e = omega (arith, ints, e)

    one_minus : pos 1 ≡ negsuc 0 → ⊥
    one_minus e = omega (arith, ints, e)

-- at a point of A >= 1, A is at least the denominator
pub row-of : (z : ℕ → ℤ) (d : ℤ) → IsPoint falling_rows z d → d ≤ℤ z 0
row-of z d point =
    least (z 0) d (All-head (λ r. pos 0 ≤ℤ form_value r z d) (line_form (pos 1) (negsuc 0)) [] point.meets.each)
  where
    least : (a d : ℤ) → pos 0 ≤ℤ ((pos 1 *ℤ a +ℤ pos 0) +ℤ negsuc 0 *ℤ d) → d ≤ℤ a
    least a d l = omega (arith, ints, l)

-- an integer of at least 1 is a point of A >= 1
pub whole-point : (n : ℕ) → IsPoint falling_rows (at (pos (suc n) ∷ [])) (pos 1)
whole-point n = record {
  denominator = omega (arith, ints);
  meets = record {
    each =
        All-cons (λ r. pos 0 ≤ℤ form_value r (at (pos (suc n) ∷ [])) (pos 1)) (line_form (pos 1) (negsuc 0)) []
        (least n)
        (All-nil (λ r. pos 0 ≤ℤ form_value r (at (pos (suc n) ∷ [])) (pos 1)));
  };
}
  where
    least : (n : ℕ) → pos 0 ≤ℤ ((pos 1 *ℤ pos (suc n) +ℤ pos 0) +ℤ negsuc 0 *ℤ pos 1)
    least n = omega (arith, ints)

-- the worked values of bounds hold
bounds : BoundsAreWorked
bounds = record {
  argument = record { each = λ z d point. above (z 0) d point.denominator };
  itself = record { each = λ z d point. level (z 0) d };
  too_low = λ h. low (h.each (at (pos 1 ∷ [])) (pos 1) (whole-point 0));
  over_two = λ h. halves (h.each (at (pos 3 ∷ [])) (pos 1) (whole-point 2));
  number = λ h. five (h.each (at (pos 7 ∷ [])) (pos 1) (whole-point 6));
}
  where
    above : (a d : ℤ) → pos 0 <ℤ d → (pos 1 *ℤ ((pos 1 *ℤ a +ℤ pos 0) +ℤ negsuc 0 *ℤ d))
        ≤ℤ ((pos 1 *ℤ a +ℤ pos 0) +ℤ pos 0 *ℤ d)
    above a d l = omega (arith, ints, l)

    level : (a d : ℤ) → (pos 1 *ℤ ((pos 1 *ℤ a +ℤ pos 0) +ℤ negsuc 0 *ℤ d)) ≤ℤ ((pos 1 *ℤ a +ℤ pos 0) +ℤ negsuc 0 *ℤ d)
    level a d = omega (arith, ints)

    low : pos 0 ≤ℤ negsuc 0 → ⊥
    low l = omega (arith, ints, l)

    halves : pos 4 ≤ℤ pos 3 → ⊥
    halves l = omega (arith, ints, l)

    five : pos 6 ≤ℤ pos 5 → ⊥
    five l = omega (arith, ints, l)

-- the worked values of weights hold
weights : WeightsAreWorkedOut
weights = record {
  less = record { sizes = omega arith; heights = λ _. omega arith };
  scaled = record { sizes = omega arith; heights = λ _. omega arith };
  sizes_first = λ h. more h.sizes;
  heights_then = λ h. more (h.heights refl);
}
  where
    more : 1 ≤ 0 → ⊥
    more l = omega (arith, l)

-- the value of a form without coefficients is its constant
number-value : (g : Form) (z : ℕ → ℤ) → ((u : ℕ) → at g.coefs u ≡ pos 0) → form_value g z (pos 1) ≡ g.constant
number-value g z is = whole _ _ (unmoved g.coefs z (λ u. zero-mul_ℤ _ _ (is u)))
  where
    whole : (a c : ℤ) → a ≡ pos 0 → a +ℤ c *ℤ pos 1 ≡ c
    whole a c e = omega (arith, ints, e)

-- no constant is a bound on A - 1
no-number : HasNone falling_rows 1 falling Number
no-number = record {
  each = λ g q l is above. clash g.constant q _ _ l (number-value g _ is)
      (falls (suc (nat_abs g.constant)))
      (above.each (at (pos (suc (suc (nat_abs g.constant))) ∷ [])) (pos 1) (whole-point (suc (nat_abs g.constant))));
}
  where
    falls : (n : ℕ) → form_value falling (at (pos (suc n) ∷ [])) (pos 1) ≡ pos n
    falls n = omega (arith, ints)

    under : (c : ℤ) → c ≤ℤ pos (nat_abs c)
    under (pos n) = omega (arith, ints)
    under (negsuc n) = omega (arith, ints)

    as_often : (q n : ℕ) → 1 ≤ q → pos n ≤ℤ (pos q *ℤ pos n)
    as_often (suc k) n l = omega (arith, ints)
    as_often zero n l = absurd (omega (arith, l))

    clash : (c : ℤ) (q : ℕ) (v w : ℤ) → 1 ≤ q → v ≡ c → w ≡ pos (suc (nat_abs c)) → (pos q *ℤ w) ≤ℤ v → ⊥
    clash c q v w l e f m =
        over _ _ (under c) (as_often q (suc (nat_abs c)) l) (from_equal _ _ _ _ e (ap (λ (y : ℤ). pos q *ℤ y) f) m)
      where
        from_equal : (a b x y : ℤ) → b ≡ y → a ≡ x → a ≤ℤ b → x ≤ℤ y
        from_equal a b x y e f m = omega (arith, ints, e, f, m)

        over : (n : ℕ) (p : ℤ) → c ≤ℤ pos n → pos (suc n) ≤ℤ p → p ≤ℤ c → ⊥
        over n p k l m = omega (arith, ints, k, l, m)

-- 0 is a constant bound on 1 - A
zero-above : IsAbove falling_rows rising (line_form (pos 0) (pos 0)) 1
zero-above = record { each = λ z d point. below (z 0) d (row-of z d point) }
  where
    below : (a d : ℤ) → d ≤ℤ a → (pos 1 *ℤ ((negsuc 0 *ℤ a +ℤ pos 0) +ℤ pos 1 *ℤ d))
        ≤ℤ ((pos 0 *ℤ a +ℤ pos 0) +ℤ pos 0 *ℤ d)
    below a d l = omega (arith, ints, l)

zero-number : IsOfKind 1 Number (line_form (pos 0) (pos 0)) 1
zero-number zero = refl
zero-number (suc u) = refl

-- the worked values of first bounds hold
first : FirstBoundsAreWorkedOut
first = record {
  up = record {
    kind = Argument 1 Plus;
    before = Number ∷ [];
    behind = Argument 1 Minus ∷ Affine ∷ [];
    order = refl;
    none = All-cons (HasNone falling_rows 1 falling) Number [] no-number (All-nil (HasNone falling_rows 1 falling));
    positive = omega arith;
    of_kind = kinds_argument;
    above = bounds.argument;
    least = record { each = λ h e l is above. argument_least h e (argument-weighs 1 1 Plus h e (omega arith) is) };
  };
  no_number = no-number;
  low = record {
    kind = Number;
    before = [];
    behind = Argument 1 Plus ∷ Argument 1 Minus ∷ Affine ∷ [];
    order = refl;
    none = All-nil (HasNone falling_rows 1 rising);
    positive = omega arith;
    of_kind = zero-number;
    above = zero-above;
    least = record { each = λ h e l is above. record { sizes = omega arith; heights = λ _. omega arith } };
  };
  some_number = λ h. h.each (line_form (pos 0) (pos 0)) 1 (omega arith) zero-number zero-above;
}
  where
    kinds_argument : IsOfKind 1 (Argument 1 Plus) (line_form (pos 1) (pos 0)) 1
    kinds_argument = record { coefs = λ u. refl; constant = refl }

    argument_least : (h : Form) (e : ℕ) → (total_size h.coefs ≡ e) × (height h.constant ≡ 0)
        → WeighsAtMost (line_form (pos 1) (pos 0)) 1 h e
    argument_least h e w = record {
      sizes = omega (arith, w.0);
      heights = λ _. omega arith;
    }

-- the worked values of rays hold
rays : RaysAreWorkedOut
rays = record {
  unbounded = record {
    ray = record { each = All-nil (λ r. pos 0 ≤ℤ form_value r (at (pos 0 ∷ pos 1 ∷ [])) (pos 0)) };
    still = still;
    rises = omega (arith, ints);
  };
  level = λ h. one (h.still 0 (omega arith));
  moving = λ h. one (h.still 0 (omega arith));
  downward = λ h. fall h.rises;
}
  where
    still : (j : ℕ) → j < 1 → at (pos 0 ∷ pos 1 ∷ []) j ≡ pos 0
    still zero l = refl
    still (suc j) l = absurd (omega (arith, l))

    one : pos 1 ≡ pos 0 → ⊥
    one e = omega (arith, ints, e)

    fall : pos 0 <ℤ negsuc 0 → ⊥
    fall l = omega (arith, ints, l)

-- all worked values of local bounds hold
pub worked : LocalFormsAreWorkedOut
worked = record { order = order; kinds = kinds; bounds = bounds; weights = weights; first = first; rays = rays }
