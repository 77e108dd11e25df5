use Rattle.std.proofs.Common.{ℕ, List, map, subst, get_or, arith}
use Rattle.guard_prep.specs.declared.rule_rows.RuleRows.{RuleRows}
use Rattle.cert_types.specs.cert_rules.GapChecks.{MeetsAt, point_of}
use Rattle.cert_types.specs.cert_rules.Gaps.{ScaledPoint}
use Rattle.cert_types.specs.AnswerViews.{scaled_of}
use Rattle.gap_checks.specs.GapTests.{forms_by, IsNear}
use Rattle.gap_checks.proofs.GapFaults.{in-list}
use Rattle.gap_checks.proofs.GapPositions.{position-is, position-more, position-fails, all-done}
use Rattle.gap_checks.proofs.gap_points.first_wrong_move.Goals as goal

-- the rows of a rule are met at a point
abbrev IsMet : List RuleRows → ℕ → ScaledPoint → Type 0
IsMet prepared_rules t z = MeetsAt (forms_by prepared_rules t).rows z

pub is_met-met-requires-clause-near : goal.is_met-met-requires-clause-near
is_met-met-requires-clause-near c =
    let near = c.requires.near in
    subst IsNear (position-is (λ t z. IsNear z) c.args.set.now c.args.moves.now c.loop-i.i c.index-moves-i.result near.ascending near.long (omega arith) c.index-moves-i.is)
    (near.near (get_or c.args.set.now c.loop-i.i 0) (in-list c.args.set.now c.loop-i.i 0 (omega arith)))

pub returns-then-not-met : goal.returns-then-not-met
returns-then-not-met c =
    let near = c.requires.near in
    position-fails (IsMet c.args.prepared_rules.now) c.args.set.now c.args.moves.now c.loop-i.i c.index-moves-i.result near.ascending near.long (omega arith) c.index-moves-i.is
    c.loop-i.invariant (λ m. let t = c.is_met-met.ensures.1 m in let no : ⊥ = cc in no)

pub loop-i-preserved : goal.loop-i-preserved
loop-i-preserved c =
    let near = c.requires.near in
    position-more (IsMet c.args.prepared_rules.now) c.args.set.now c.args.moves.now c.loop-i.i c.index-moves-i.result near.ascending near.long (omega arith) c.index-moves-i.is
    c.loop-i.invariant (c.is_met-met.ensures.0 c.if-not-met.false)

pub returns : goal.returns
returns c =
    all-done (λ t. IsMet c.args.prepared_rules.now t (point_of c.args.set.now (map scaled_of c.args.moves.now) t)) c.args.set.now c.loop-i.i (omega arith) c.loop-i.invariant
