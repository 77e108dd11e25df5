-- The worked values of functions that rank a rule hold.
use Rattle.std.proofs.Common.{◌≡◌, ℕ, zero, suc, ◌≤◌, arith, refl, [], ◌∷◌, length}
use Rattle.std.specs.Prelude.{ℤ, pos, negsuc, ◌≤ℤ◌}
use Rattle.std.specs.List.{All}
use Rattle.std.proofs.lemmas.Int.{ints}
use Rattle.std.proofs.lemmas.Bool.{false≢true}
use Rattle.std.proofs.lemmas.List.Elements.{All-cons, All-nil}
use Rattle.linear_forms.specs.Forms.{Form, at, form_value}
use Rattle.linear_forms.specs.QuestionValues.{entering_rule, falling_rule, sliding_rule, falling_set, shut_set}
use Rattle.linear_forms.specs.QuestionValues.{sliding_set, line_form, plane_form}
use Rattle.linear_forms.proofs.WorkedQuestions.{question-values}
use Rattle.rule_forms.specs.Laws.{HasPoint}
use Rattle.rule_forms.specs.Ranking.{Loses, NoRank}
use Rattle.rule_forms.specs.RankLaws.{IsRuleOf}
use Rattle.rule_forms.specs.WorkedRanks.{everywhere, RanksAreWorkedOut, FitsAreWorkedOut, RankWeightsAreWorkedOut, RankingIsWorkedOut}
use Rattle.rule_forms.proofs.RankExclusion.{dual-excludes_ranks}
use Rattle.rule_forms.proofs.Worked.{row-of, whole-point}

-- A decreases by 1 at the second rule, and doesn't increase at the first
entering-one : Loses falling_set (everywhere (line_form (pos 1) (pos 0))) 1 0
unfolding falling_set entering_rule
entering-one = record { each = λ z d point. omega (arith, ints) }

falling-one : Loses falling_set (everywhere (line_form (pos 1) (pos 0))) 2 1
unfolding falling_set falling_rule
falling-one = record { each = λ z d point. omega (arith, ints) }

falling-none : Loses falling_set (everywhere (line_form (pos 1) (pos 0))) 2 0
unfolding falling_set falling_rule
falling-none = record { each = λ z d point. omega (arith, ints, point.denominator) }

-- 2*A decreases by 2 at the second rule
entering-two : Loses falling_set (everywhere (line_form (pos 2) (pos 0))) 1 0
unfolding falling_set entering_rule
entering-two = record { each = λ z d point. omega (arith, ints) }

falling-two : Loses falling_set (everywhere (line_form (pos 2) (pos 0))) 2 2
unfolding falling_set falling_rule
falling-two = record { each = λ z d point. omega (arith, ints) }

falling-less : Loses falling_set (everywhere (line_form (pos 2) (pos 0))) 2 0
unfolding falling_set falling_rule
falling-less = record { each = λ z d point. omega (arith, ints, point.denominator) }

-- the worked values of ranking functions hold
ranks : RanksAreWorkedOut
unfolding falling_set falling_rule
ranks = record {
  argument = record {
    positive = omega arith;
    rises = All-cons (λ t. Loses falling_set (everywhere (line_form (pos 1) (pos 0))) t 0) 1 (2 ∷ []) entering-one
        (All-cons (λ t. Loses falling_set (everywhere (line_form (pos 1) (pos 0))) t 0) 2 [] falling-none
        (All-nil (λ t. Loses falling_set (everywhere (line_form (pos 1) (pos 0))) t 0)));
    falls = falling-one;
    floor = λ z d point. omega (arith, ints, row-of z d point);
  };
  doubled = record {
    positive = omega arith;
    rises = All-cons (λ t. Loses falling_set (everywhere (line_form (pos 2) (pos 0))) t 0) 1 (2 ∷ []) entering-two
        (All-cons (λ t. Loses falling_set (everywhere (line_form (pos 2) (pos 0))) t 0) 2 [] falling-less
        (All-nil (λ t. Loses falling_set (everywhere (line_form (pos 2) (pos 0))) t 0)));
    falls = falling-two;
    floor = λ z d point. omega (arith, ints, row-of z d point);
  };
  too_much = λ h. two (h.falls.each (at (pos 1 ∷ [])) (pos 1) (whole-point 0));
  number = λ h. three (h.falls.each (at (pos 1 ∷ [])) (pos 1) (whole-point 0));
  negated = λ h. minus (h.falls.each (at (pos 1 ∷ [])) (pos 1) (whole-point 0));
  floor_missed = λ h. floor (h.floor (at (pos 1 ∷ [])) (pos 1) (whole-point 0));
}
  where
    two : pos 2 ≤ℤ pos 1 → ⊥
    two l = omega (arith, ints, l)

    three : pos 4 ≤ℤ pos 3 → ⊥
    three l = omega (arith, ints, l)

    minus : pos 1 ≤ℤ negsuc 0 → ⊥
    minus l = omega (arith, ints, l)

    floor : pos 1 ≤ℤ pos 0 → ⊥
    floor l = omega (arith, ints, l)

-- the worked values of shut places hold
fits : FitsAreWorkedOut
unfolding falling_set shut_set
fits = record {
  unshut = record { closed = λ s j e. absurd (false≢true e); places = λ s j l. past (pos 1) j l };
  shut = λ h. one (h.closed 1 0 refl);
  number = record { closed = λ s j e. zeros (pos 0) j; places = λ s j l. past (pos 0) j l };
  second_place = λ h. one (h.places 0 1 (omega arith));
}
  where
    past : (a : ℤ) (j : ℕ) → 1 ≤ j → at (a ∷ []) j ≡ pos 0
    past a zero l = absurd (omega (arith, l))
    past a (suc j) l = refl

    zeros : (a : ℤ) (j : ℕ) → at (pos 0 ∷ []) j ≡ pos 0
    zeros a zero = refl
    zeros a (suc j) = refl

    one : pos 1 ≡ pos 0 → ⊥
    one e = omega (arith, ints, e)

-- the worked values of weights hold
weights : RankWeightsAreWorkedOut
unfolding falling_set entering_rule falling_rule
weights = record {
  size = refl;
  height = refl;
  less = record { sizes = omega arith; heights = λ _. omega arith };
  scaled = record { sizes = omega arith; heights = λ _. omega arith };
  more = λ h. two h.sizes;
  higher = λ h. one (h.heights refl);
}
  where
    two : 2 ≤ 1 → ⊥
    two l = omega (arith, l)

    one : 1 ≤ 0 → ⊥
    one l = omega (arith, l)

-- forms in one unknown have at most one coefficient
lengths : (a b : ℤ) → All (λ (f : Form). length f.coefs ≤ 1) (line_form a b ∷ [])
lengths a b =
    All-cons (λ (f : Form). length f.coefs ≤ 1) (line_form a b) [] (omega arith)
    (All-nil (λ (f : Form). length f.coefs ≤ 1))

-- no function ranks the second rule if A is shut (has no known size bound)
shut-none : NoRank shut_set
unfolding shut_set falling_rule
shut-none = dual-excludes_ranks shut_set (at (pos 1 ∷ pos 1 ∷ pos 1 ∷ pos 0 ∷ []))
    (record {
      rules = All-cons (λ t. IsRuleOf shut_set (shut_set.rule t)) 2 [] (record {
        source = omega arith;
        target = omega arith;
        left = refl;
        unknowns = omega arith;
        values = refl;
        rows_fit = lengths (pos 1) (negsuc 0);
        new_values_fit = lengths (pos 1) (negsuc 0);
      }) (All-nil (λ t. IsRuleOf shut_set (shut_set.rule t)));
      inside = 0;
      at_inside = omega arith;
      strict = refl;
    })
    (record {
      each =
          All-cons (λ t. HasPoint (shut_set.rule t).rows) 2 []
          (record { z = at (pos 1 ∷ []); d = pos 1; point = whole-point 0 })
          (All-nil (λ t. HasPoint (shut_set.rule t).rows));
    })
    question-values.shut.refuted

-- forms in two unknowns have at most two coefficients
lengths-two : (f g : Form) → length f.coefs ≡ 2 → length g.coefs ≡ 2
    → All (λ (h : Form). length h.coefs ≤ 2) (f ∷ g ∷ [])
lengths-two f g e h = All-cons (λ (k : Form). length k.coefs ≤ 2) f (g ∷ []) (omega (arith, e))
    (All-cons (λ (k : Form). length k.coefs ≤ 2) g [] (omega (arith, h)) (All-nil (λ (k : Form). length k.coefs ≤ 2)))

-- no function ranks the sliding rule
sliding-none : NoRank sliding_set
unfolding sliding_set sliding_rule
sliding-none = dual-excludes_ranks sliding_set (at (pos 1 ∷ pos 1 ∷ pos 1 ∷ pos 1 ∷ negsuc 0 ∷ pos 0 ∷ []))
    (record {
      rules = All-cons (λ t. IsRuleOf sliding_set (sliding_set.rule t)) 2 [] (record {
        source = omega arith;
        target = omega arith;
        left = refl;
        unknowns = omega arith;
        values = refl;
        rows_fit =
            All-cons (λ (k : Form). length k.coefs ≤ 2) (plane_form (pos 1) (pos 0) (negsuc 0)) [] (omega arith)
            (All-nil (λ (k : Form). length k.coefs ≤ 2));
        new_values_fit = lengths-two (plane_form (pos 1) (pos 1) (pos 0)) (plane_form (pos 0) (pos 1) (negsuc 0)) refl refl;
      }) (All-nil (λ t. IsRuleOf sliding_set (sliding_set.rule t)));
      inside = 0;
      at_inside = omega arith;
      strict = refl;
    })
    (record {
      each = All-cons (λ t. HasPoint (sliding_set.rule t).rows) 2 [] (record {
        z = at (pos 1 ∷ pos 1 ∷ []);
        d = pos 1;
        point = record {
          denominator = omega (arith, ints);
          meets = record {
            each =
                All-cons (λ (f : Form). pos 0 ≤ℤ form_value f (at (pos 1 ∷ pos 1 ∷ [])) (pos 1))
                (plane_form (pos 1) (pos 0) (negsuc 0)) [] (omega (arith, ints))
                (All-nil (λ (f : Form). pos 0 ≤ℤ form_value f (at (pos 1 ∷ pos 1 ∷ [])) (pos 1)));
          };
        };
      }) (All-nil (λ t. HasPoint (sliding_set.rule t).rows));
    })
    question-values.not_ranked.refuted

-- all worked values of ranking hold
pub worked : RankingIsWorkedOut
worked = record {
  ranks = ranks;
  fits = fits;
  weights = weights;
  none = record { shut = shut-none; sliding = sliding-none; falling = λ h. h.each _ 1 ranks.argument fits.unshut };
}
