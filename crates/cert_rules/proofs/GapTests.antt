-- The tests of a gap decide its checks.
use Rattle.std.proofs.Common.{◌≡◌, ℕ, ◌≤◌, not, Bool, true, false, List, length, refl, arith}
use Rattle.std.specs.Prelude.{pos, nat_abs, ◌≤ℤ◌}
use Rattle.std.specs.Bool.{Decides}
use Rattle.std.proofs.lemmas.Int.{ints}
use Rattle.std.proofs.lemmas.Bool.{true≢false}
use Rattle.std.proofs.lemmas.Bool.Decides.{Decides-eqb, Decides-int_eq, Decides-ltb, Decides-and, Decides-like}
use Rattle.run_counting.specs.model.Programs.{Program}
use Rattle.run_counting.specs.model.Entries.{is_in}
use Rattle.rule_forms.specs.linear_forms.Forms.{Form}
use Rattle.rule_forms.specs.linear_forms.Limits.{point_limit}
use Rattle.rule_forms.specs.linear_forms.RuleQuestions.{RuleForms}
use Rattle.cert_rules.specs.AcceptsPlain.{IsRule}
use Rattle.cert_rules.specs.Gaps.{ScaledPoint, Gap}
use Rattle.cert_rules.specs.GapChecks.{IsGapPoint, HasGapShape, MeetsAt, IsPointOf, point_of, value_at, balance, balanced}
use Rattle.cert_rules.specs.GapChecks.{gap_checks}
use Rattle.cert_rules.specs.PlainTests.{is_rule}
use Rattle.cert_rules.specs.GapTests.{is_gap_point, are_gap_points, has_gap_shape, meets_at, is_point_of, gap_tests}
use Rattle.cert_rules.proofs.TestLists.{AllDecide, each-decides}
use Rattle.cert_rules.proofs.NumberTests.{decides-le, decides-int_le, decides-all, decides-each, decides-ascending}
use Rattle.cert_rules.proofs.PlainTests.{decides-rule}

-- whether a scaled point may be one of a gap is decided
decides-point : (r : RuleForms) (z : ScaledPoint) → Decides (is_gap_point r z) (IsGapPoint r z)
decides-point r z =
    Decides-like (is_gap_point r z) (λ h. record { long = h.0.0; parts_limit = h.0.1; den_limit = h.1 })
    (λ h. ((h.long, h.parts_limit), h.den_limit))
    (Decides-and _ _
    (Decides-and _ _ (Decides-eqb (length z.parts) r.unknowns)
    (decides-all _ (λ x. nat_abs x ≤ point_limit) (λ x. decides-le (nat_abs x) point_limit) z.parts))
    (decides-le z.den point_limit))

-- whether there is such a point for each rule of a set is decided
decides-points : (rule : ℕ → RuleForms) (set : List ℕ) (zs : List ScaledPoint)
    → Decides (are_gap_points rule set zs)
    ((length zs ≡ length set) × ((t : ℕ) → is_in t set ≡ true → IsGapPoint (rule t) (point_of set zs t)))
decides-points rule set zs =
    Decides-and _ _ (Decides-eqb (length zs) (length set))
    (decides-each _ (λ t. IsGapPoint (rule t) (point_of set zs t)) (λ t. decides-point (rule t) (point_of set zs t)) set)

-- whether every row gives at least 0 at a scaled point is decided
decides-meets : (rows : List Form) (z : ScaledPoint) → Decides (meets_at rows z) (MeetsAt rows z)
decides-meets rows z =
    Decides-like (meets_at rows z) (λ h. record { each = h }) (λ h. h.each)
    (decides-all _ (λ r. pos 0 ≤ℤ value_at r z) (λ r. decides-int_le (pos 0) (value_at r z)) rows)

-- whether a scaled point is a point of the rows is decided
decides-kept : (rows : List Form) (z : ScaledPoint) → Decides (is_point_of rows z) (IsPointOf rows z)
decides-kept rows z =
    Decides-like (is_point_of rows z)
    (λ h. record { denominator = omega (arith, ints, h.0); meets = h.1 })
    (λ h. (omega (arith, ints, h.denominator), h.meets))
    (Decides-and _ _ (Decides-ltb 0 z.den) (decides-meets rows z))

-- the negation of a test decides that what the test decides doesn't hold
decides-none : {P : Type 0} (v : Bool) → Decides v P → Decides (not v) (¬ P)
decides-none true h = ((λ e. absurd (true≢false (neg e))), (λ n. absurd (n (h.0 refl))))
  where
    neg : false ≡ true → true ≡ false
    neg e = cc
decides-none false h = ((λ e p. true≢false (neg (h.1 p))), (λ n. refl))
  where
    neg : false ≡ true → true ≡ false
    neg e = cc

module _ (p : Program) (rule : ℕ → RuleForms) (g : Gap) where
  -- whether the shape of a gap is right is decided
  decides-shape : Decides (has_gap_shape p rule g) (HasGapShape p rule g)
  decides-shape =
      Decides-like (has_gap_shape p rule g)
      (λ h. record {
        ascending = h.0.0.0.0.0;
        rules = h.0.0.0.0.1;
        inside = h.0.0.0.1;
        one_move = h.0.0.1.0;
        one_kept = h.0.1.0;
        moves = h.0.0.1.1;
        kept = h.0.1.1;
        floor = h.1;
      })
      (λ h. (((((h.ascending, h.rules), h.inside), (h.one_move, h.moves)), (h.one_kept, h.kept)), h.floor))
      (Decides-and _ _
      (Decides-and _ _
      (Decides-and _ _
      (Decides-and _ _
      (Decides-and _ _ (decides-ascending g.set) (decides-each (is_rule p) (IsRule p) (decides-rule p) g.set))
      ((λ e. e), (λ e. e)))
      (decides-points rule g.set g.moves))
      (decides-points rule g.set g.kept))
      (decides-point (rule g.rule) g.floor))

  -- the tests of a gap decide its checks
  pub gap-decides : AllDecide (gap_checks p rule g) (gap_tests p rule g)
  gap-decides = (
    refl,
    (
      decides-shape,
      each-decides _ _ _ _ (λ t. refl) (λ t. decides-meets (rule t).rows (point_of g.set g.moves t)) (
        refl,
        (
          decides-meets (rule g.rule).rows g.floor,
          each-decides _ _ _ _ (λ t. refl) (λ t. decides-kept (rule t).rows (point_of g.set g.kept t))
              (each-decides _ _ _ _ (λ c. refl) (λ c. Decides-int_eq (balance rule g c) (pos 0)) (
                refl,
                (
                  decides-none _
                      (Decides-and _ _ (Decides-eqb (point_of g.set g.moves g.rule).den 0) (Decides-eqb g.floor.den 0)),
                  tt,
                ),
              )
              (balanced p g))
              g.set,
        ),
      )
          g.set,
    ),
  )
