use Rattle.std.proofs.Common.{◌∙◌, sym, map, arith, true, false}
use Rattle.signed_bounds.specs.Views.{signed_of}
use Rattle.potential_types.specs.Views.{fact_view, table_of}
use Rattle.check_potentials.proofs.PartLaws.{resets-more, resets-none}
use Rattle.check_potentials.proofs.peaks.are_resets_within.Goals as goal

pub returns-then-not-is_high : goal.returns-then-not-is_high
returns-then-not-is_high c =
    sym (resets-more (map fact_view c.args.facts.now) (table_of c.args.table.now) (signed_of c.args.bound.now)
    c.args.moves.now c.loop-step.step-index c.step-item.result false c.loop-step-test.true c.step-item.is
    (sym c.if-not-is_high.true ∙ c.in_ok-is_high.ensures))
    ∙ c.loop-step.invariant

pub loop-step-preserved : goal.loop-step-preserved
loop-step-preserved c =
    sym (resets-more (map fact_view c.args.facts.now) (table_of c.args.table.now) (signed_of c.args.bound.now)
    c.args.moves.now c.loop-step.step-index c.step-item.result true c.loop-step-test.true c.step-item.is
    (sym c.if-not-is_high.false ∙ c.in_ok-is_high.ensures))
    ∙ c.loop-step.invariant

pub returns : goal.returns
returns c =
    sym (resets-none (map fact_view c.args.facts.now) (table_of c.args.table.now) (signed_of c.args.bound.now)
    c.args.moves.now c.loop-step.step-index (omega arith))
    ∙ c.loop-step.invariant
