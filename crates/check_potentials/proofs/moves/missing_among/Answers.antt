use Rattle.std.proofs.Common.{◌∙◌, sym, ap, map, arith}
use Rattle.its_model.specs.Views.{rule_of}
use Rattle.its_model.specs.declared.program.Rule.{Rule}
use Rattle.potential_nodes.specs.Facts.{is_never}
use Rattle.potential_types.specs.Views.{fact_view, table_of}
use Rattle.check_potentials.proofs.MissingLaws.{missing-passed, missing-found, missing-none}
use Rattle.check_potentials.proofs.moves.missing_among.Goals as goal

pub returns : goal.returns
returns c =
    missing-none (table_of c.args.table.now) (is_never (map fact_view c.args.known.facts.now)) c.args.rules.now
    c.loop-i.i
    (omega arith) c.loop-i.invariant

pub loop-i-preserved : goal.loop-i-preserved
loop-i-preserved c =
    missing-passed (table_of c.args.table.now) (is_never (map fact_view c.args.known.facts.now)) c.args.rules.now
    c.loop-i.i
    c.index-rules-i.result (omega arith) c.index-rules-i.is
    (sym (c.has_move-is_there.ensures (rule_of c.index-rules-i.result) (ap (λ (r : Rule). r.target) c.index-rules-i.is))
    ∙ c.if-not-is_there.false)
    c.loop-i.invariant

pub returns-then-not-is_there : goal.returns-then-not-is_there
returns-then-not-is_there c =
    missing-found (table_of c.args.table.now) (is_never (map fact_view c.args.known.facts.now)) c.args.rules.now
    c.loop-i.i
    c.index-rules-i.result (omega arith) c.index-rules-i.is
    (sym (c.has_move-is_there.ensures (rule_of c.index-rules-i.result) (ap (λ (r : Rule). r.target) c.index-rules-i.is))
    ∙ c.if-not-is_there.true)
    c.loop-i.invariant
