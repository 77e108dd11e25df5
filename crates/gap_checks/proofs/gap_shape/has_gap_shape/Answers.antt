use Rattle.std.proofs.Common.{sym}
use Rattle.its_model.specs.Views.{program_of}
use Rattle.gap_checks.proofs.GapShapes.{shape-set, shape-moves, shape-kept, shape-floor, shape-whole, same-points}
use Rattle.gap_checks.proofs.gap_shape.has_gap_shape.Goals as goal

pub returns-then-not-is_gap_set : goal.returns-then-not-is_gap_set
returns-then-not-is_gap_set c = (
  λ e. absurd (let no : ⊥ = cc in no),
  λ h. c.if-not-is_gap_set.ensures.1 (shape-set (program_of c.args.p.now) c.args.prepared_rules.now c.requires c.args.g.now h),
)

pub returns-then-not-are_gap_points : goal.returns-then-not-are_gap_points
returns-then-not-are_gap_points c = (
  λ e. absurd (let no : ⊥ = cc in no),
  λ h. c.if-not-are_gap_points.ensures.1 (same-points c.args.prepared_rules.now _ _ _ _ (sym c.deref.ensures.value) (sym c.deref-2.ensures.value)
      (shape-moves (program_of c.args.p.now) c.args.prepared_rules.now c.requires c.args.g.now h)),
)

pub returns-then-not-are_gap_points-2 : goal.returns-then-not-are_gap_points-2
returns-then-not-are_gap_points-2 c = (
  λ e. absurd (let no : ⊥ = cc in no),
  λ h. c.if-not-are_gap_points-2.ensures.1 (same-points c.args.prepared_rules.now _ _ _ _ (sym c.deref-3.ensures.value) (sym c.deref-4.ensures.value)
      (shape-kept (program_of c.args.p.now) c.args.prepared_rules.now c.requires c.args.g.now h)),
)

pub returns : goal.returns
returns c =
    let p = program_of c.args.p.now in (
      λ e. shape-whole p c.args.prepared_rules.now c.requires c.args.g.now (c.is_gap_set.ensures.0 c.if-not-is_gap_set.false)
          (same-points c.args.prepared_rules.now _ _ _ _ c.deref.ensures.value c.deref-2.ensures.value (c.are_gap_points.ensures.0 c.if-not-are_gap_points.false))
          (same-points c.args.prepared_rules.now _ _ _ _ c.deref-3.ensures.value c.deref-4.ensures.value (c.are_gap_points-2.ensures.0 c.if-not-are_gap_points-2.false))
          (c.is_gap_point.ensures.0 e),
      λ h. c.is_gap_point.ensures.1 (shape-floor p c.args.prepared_rules.now c.requires c.args.g.now h),
    )
