use Rattle.std.proofs.Common.{ℕ, List, map, subst, get_or, arith}
use Rattle.guard_prep.specs.declared.rule_rows.RuleRows.{RuleRows}
use Rattle.cert_types.specs.cert_rules.GapChecks.{IsPointOf, point_of}
use Rattle.cert_types.specs.cert_rules.Gaps.{ScaledPoint}
use Rattle.cert_types.specs.AnswerViews.{scaled_of}
use Rattle.gap_checks.specs.GapTests.{forms_by, IsNear}
use Rattle.gap_checks.proofs.GapFaults.{in-list}
use Rattle.gap_checks.proofs.GapPositions.{position-is, position-more, position-fails, all-done}
use Rattle.gap_checks.proofs.gap_points.first_not_kept.Goals as goal

-- a point is one of the rows of a rule
abbrev IsKept : List RuleRows → ℕ → ScaledPoint → Type 0
IsKept prepared_rules t z = IsPointOf (forms_by prepared_rules t).rows z

pub is_kept-is_point-requires-clause-near : goal.is_kept-is_point-requires-clause-near
is_kept-is_point-requires-clause-near c =
    let near = c.requires.near in
    subst IsNear (position-is (λ t z. IsNear z) c.args.set.now c.args.kept.now c.loop-i.i c.index-kept-i.result near.ascending near.long (omega arith) c.index-kept-i.is)
    (near.near (get_or c.args.set.now c.loop-i.i 0) (in-list c.args.set.now c.loop-i.i 0 (omega arith)))

pub returns-then-not-is_point : goal.returns-then-not-is_point
returns-then-not-is_point c =
    let near = c.requires.near in
    position-fails (IsKept c.args.prepared_rules.now) c.args.set.now c.args.kept.now c.loop-i.i c.index-kept-i.result near.ascending near.long (omega arith) c.index-kept-i.is
    c.loop-i.invariant (λ m. let t = c.is_kept-is_point.ensures.1 m in let no : ⊥ = cc in no)

pub loop-i-preserved : goal.loop-i-preserved
loop-i-preserved c =
    let near = c.requires.near in
    position-more (IsKept c.args.prepared_rules.now) c.args.set.now c.args.kept.now c.loop-i.i c.index-kept-i.result near.ascending near.long (omega arith) c.index-kept-i.is
    c.loop-i.invariant (c.is_kept-is_point.ensures.0 c.if-not-is_point.false)

pub returns : goal.returns
returns c =
    all-done (λ t. IsKept c.args.prepared_rules.now t (point_of c.args.set.now (map scaled_of c.args.kept.now) t)) c.args.set.now c.loop-i.i (omega arith) c.loop-i.invariant
