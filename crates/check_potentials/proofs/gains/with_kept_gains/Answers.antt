use Rattle.std.proofs.Common.{◌∙◌, ◌+◌, sym, ap, map, drop, arith}
use Rattle.std.specs.Prelude.{filter}
use Rattle.signed_bounds.specs.Views.{signeds_of}
use Rattle.potential_nodes.specs.Falls.{gain_parts, with_bound}
use Rattle.potential_nodes.specs.Peaks.{keeps_function}
use Rattle.potential_types.specs.Views.{fact_view, move_of}
use Rattle.check_potentials.specs.Parts.{in_front}
use Rattle.check_potentials.proofs.PartLaws.{kept-more, kept-none, in_front_none}
use Rattle.check_potentials.proofs.gains.with_kept_gains.Goals as goal

pub loop-step-preserved : goal.loop-step-preserved
loop-step-preserved c =
    c.in_ok-push_bound.ensures (gain_parts (map fact_view c.args.facts.now)
    (filter keeps_function (map move_of (drop (c.loop-step.step-index + 1) c.args.moves.now))))
    ∙ (ap (λ o. in_front (signeds_of c.loop-step.parts.items)
    (with_bound o (gain_parts (map fact_view c.args.facts.now)
    (filter keeps_function (map move_of (drop (c.loop-step.step-index + 1) c.args.moves.now))))))
    c.kept_cited.ensures
    ∙ (sym (ap (in_front (signeds_of c.loop-step.parts.items))
    (kept-more (map fact_view c.args.facts.now) c.args.moves.now
    c.loop-step.step-index c.step-item.result c.loop-step-test.true c.step-item.is))
    ∙ c.loop-step.invariant))

pub returns : goal.returns
returns c =
    sym (in_front_none (signeds_of c.loop-step.parts.items))
    ∙ (sym (ap (in_front (signeds_of c.loop-step.parts.items))
    (kept-none (map fact_view c.args.facts.now) c.args.moves.now
    c.loop-step.step-index (omega arith)))
    ∙ c.loop-step.invariant)
