-- The test of a gap's shape, over the rows of the rules, agrees with its definition.
use Rattle.std.proofs.Common.{◌≡◌, ℕ, List, map, sym, ◌∙◌, subst}
use Rattle.std.proofs.lemmas.List.{length-map}
use Rattle.farkas_cert.specs.linear_forms.RuleQuestions.{RuleForms}
use Rattle.farkas_cert.specs.model.Programs.{Program}
use Rattle.farkas_cert.specs.declared.scaled.Scaled.{Scaled}
use Rattle.guard_prep.specs.declared.rule_rows.RuleRows.{RuleRows}
use Rattle.cert_types.specs.cert_program.RankedSets.{forms_at}
use Rattle.cert_types.specs.cert_rules.AcceptsPlain.{IsRule}
use Rattle.cert_types.specs.cert_rules.GapChecks.{HasGapShape, IsGapPoint, point_of}
use Rattle.cert_types.specs.cert_rules.Gaps.{ScaledPoint}
use Rattle.cert_types.proofs.cert_rules.CheckLists.{each-in, in-each}
use Rattle.cert_types.specs.declared.gap.Gap.{Gap}
use Rattle.cert_types.specs.AnswerViews.{scaled_of, gap_of}
use Rattle.cert_types.specs.Composing.{AreRowsOf}
use Rattle.gap_checks.specs.GapTests.{forms_by, IsGapSet, HaveGapPoints}
use Rattle.gap_checks.proofs.GapFaults.{forms-alike}

-- rules with equally many unknowns have the same gap points
point-alike : (r s : RuleForms) (z : ScaledPoint) → r.unknowns ≡ s.unknowns → IsGapPoint r z → IsGapPoint s z
point-alike r s z e h = record { long = h.long ∙ e; parts_limit = h.parts_limit; den_limit = h.den_limit }

module _ (p : Program) (prepared_rules : List RuleRows) (rows : AreRowsOf prepared_rules p) where
  to-prepared : (t : ℕ) (z : ScaledPoint) → IsGapPoint (forms_at p t) z → IsGapPoint (forms_by prepared_rules t) z
  to-prepared t z h = point-alike (forms_at p t) (forms_by prepared_rules t) z (forms-alike p prepared_rules rows t).unknowns h

  from-prepared : (t : ℕ) (z : ScaledPoint) → IsGapPoint (forms_by prepared_rules t) z → IsGapPoint (forms_at p t) z
  from-prepared t z h = point-alike (forms_by prepared_rules t) (forms_at p t) z (sym (forms-alike p prepared_rules rows t).unknowns) h

  module _ (g : Gap) where
    -- if a gap's shape is right, so is its set
    pub shape-set : HasGapShape p (forms_at p) (gap_of g) → IsGapSet p (gap_of g)
    shape-set h = record { ascending = h.ascending; rules = in-each (IsRule p) g.set.items h.rules; inside = h.inside }

    -- if a gap's shape is right, so are its points: the moves, the kept points and the floor
    pub shape-moves : HasGapShape p (forms_at p) (gap_of g) → HaveGapPoints prepared_rules g.set.items g.moves.items
    shape-moves h = (
      sym (length-map g.moves.items scaled_of) ∙ h.one_move,
      in-each (λ t. IsGapPoint (forms_by prepared_rules t) (point_of g.set.items (map scaled_of g.moves.items) t)) g.set.items
          (λ t i. to-prepared t (point_of g.set.items (map scaled_of g.moves.items) t) (h.moves t i)),
    )

    pub shape-kept : HasGapShape p (forms_at p) (gap_of g) → HaveGapPoints prepared_rules g.set.items g.kept.items
    shape-kept h = (
      sym (length-map g.kept.items scaled_of) ∙ h.one_kept,
      in-each (λ t. IsGapPoint (forms_by prepared_rules t) (point_of g.set.items (map scaled_of g.kept.items) t)) g.set.items
          (λ t i. to-prepared t (point_of g.set.items (map scaled_of g.kept.items) t) (h.kept t i)),
    )

    pub shape-floor : HasGapShape p (forms_at p) (gap_of g) → IsGapPoint (forms_by prepared_rules g.rule) (scaled_of g.floor)
    shape-floor h = to-prepared g.rule (scaled_of g.floor) h.floor

    -- if a gap's set and its points are right, so is its shape
    pub shape-whole : IsGapSet p (gap_of g) → HaveGapPoints prepared_rules g.set.items g.moves.items
        → HaveGapPoints prepared_rules g.set.items g.kept.items → IsGapPoint (forms_by prepared_rules g.rule) (scaled_of g.floor)
        → HasGapShape p (forms_at p) (gap_of g)
    shape-whole s m k f = record {
      ascending = s.ascending;
      rules = each-in (IsRule p) g.set.items s.rules;
      inside = s.inside;
      one_move = length-map g.moves.items scaled_of ∙ m.0;
      one_kept = length-map g.kept.items scaled_of ∙ k.0;
      moves = λ t i. from-prepared t (point_of g.set.items (map scaled_of g.moves.items) t) (each-in
          (λ u. IsGapPoint (forms_by prepared_rules u) (point_of g.set.items (map scaled_of g.moves.items) u)) g.set.items m.1 t i);
      kept = λ t i. from-prepared t (point_of g.set.items (map scaled_of g.kept.items) t) (each-in
          (λ u. IsGapPoint (forms_by prepared_rules u) (point_of g.set.items (map scaled_of g.kept.items) u)) g.set.items k.1 t i);
      floor = from-prepared g.rule (scaled_of g.floor) f;
    }

-- what holds of a set and its points holds of equal lists
pub same-points : (prepared_rules : List RuleRows) (xs ys : List ℕ) (zs ws : List Scaled) → xs ≡ ys → zs ≡ ws
    → HaveGapPoints prepared_rules xs zs → HaveGapPoints prepared_rules ys ws
same-points prepared_rules xs ys zs ws e f h =
    subst (λ (vs : List Scaled). HaveGapPoints prepared_rules ys vs) f (subst (λ (ts : List ℕ). HaveGapPoints prepared_rules ts zs) e h)
