use Rattle.std.proofs.Common.{◌≡◌, ℕ, List, ◌∙◌, map, length, refl, arith}
use Rattle.std.proofs.lemmas.List.{length-map}
use Rattle.guard_prep.specs.declared.rule_rows.RuleRows.{RuleRows}
use Rattle.cert_types.specs.cert_rules.GapChecks.{IsGapPoint, point_of}
use Rattle.cert_types.specs.cert_rules.Gaps.{ScaledPoint}
use Rattle.cert_types.specs.AnswerViews.{scaled_of}
use Rattle.gap_checks.specs.GapTests.{forms_by}
use Rattle.gap_checks.proofs.GapPositions.{position-more, position-breaks, all-done}
use Rattle.gap_checks.proofs.gap_shape.are_gap_points.Goals as goal

-- a scaled point is like that of a rule
abbrev Fits : List RuleRows → ℕ → ScaledPoint → Type 0
Fits prepared_rules t z = IsGapPoint (forms_by prepared_rules t) z

pub returns-then-not-fits : goal.returns-then-not-fits
returns-then-not-fits c =
    let long : length (map scaled_of c.args.zs.now) ≡ length c.args.set.now = length-map c.args.zs.now scaled_of ∙ omega arith in (
      λ e. absurd (let no : ⊥ = cc in no),
      λ h. absurd (position-breaks (Fits c.args.prepared_rules.now) c.args.set.now c.args.zs.now c.loop-i.i c.index-zs-i.result c.requires long (omega arith) c.index-zs-i.is
          (λ m. let t = c.is_gap_point-fits.ensures.1 m in let no : ⊥ = cc in no) h.1),
    )

pub loop-i-preserved : goal.loop-i-preserved
loop-i-preserved c =
    let long : length (map scaled_of c.args.zs.now) ≡ length c.args.set.now = length-map c.args.zs.now scaled_of ∙ omega arith in
    position-more (Fits c.args.prepared_rules.now) c.args.set.now c.args.zs.now c.loop-i.i c.index-zs-i.result c.requires long (omega arith) c.index-zs-i.is
    c.loop-i.invariant (c.is_gap_point-fits.ensures.0 c.if-not-fits.false)

pub returns : goal.returns
returns c =
    (λ e. (omega arith, all-done (λ t. Fits c.args.prepared_rules.now t (point_of c.args.set.now (map scaled_of c.args.zs.now) t)) c.args.set.now c.loop-i.i (omega arith) c.loop-i.invariant), λ h. refl)
