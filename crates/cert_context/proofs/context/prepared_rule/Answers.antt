use Rattle.cert_context.specs.CheckContexts.{program}
use Rattle.cert_context.proofs.Rows.{row-within, prepared_rule-rows, prepared_rule-new_values, prepared_rule-small}
use Rattle.cert_context.proofs.SuitedRows.{prepared_rule-suits, prepared_rule-side_bounds, prepared_rule-own, prepared_rule-places}
use Rattle.std.proofs.Common.{arith}
use Rattle.cert_context.proofs.context.prepared_rule.Goals as goal

pub index-requires : goal.index-requires
index-requires c =
    let g = c.args.context.now in
    let l = row-within (program g) g.prepared_rules.items c.requires.context.rows c.args.rule c.requires.rule in
    omega (arith, l.0, l.1)

pub returns-clause-rows : goal.returns-clause-rows
returns-clause-rows c =
    let g = c.args.context.now in
    prepared_rule-rows (program g) g.prepared_rules.items c.requires.context.rows c.args.rule c.requires.rule c.index.result.now c.index.ensures

pub returns-clause-new_values : goal.returns-clause-new_values
returns-clause-new_values c =
    let g = c.args.context.now in
    prepared_rule-new_values (program g) g.prepared_rules.items c.requires.context.rows c.args.rule c.requires.rule c.index.result.now c.index.ensures

pub returns-clause-small : goal.returns-clause-small
returns-clause-small c =
    let g = c.args.context.now in
    prepared_rule-small (program g) g.prepared_rules.items c.requires.context.rows c.args.rule c.requires.rule c.index.result.now c.index.ensures c.requires.context.valid

pub returns-clause-suits : goal.returns-clause-suits
returns-clause-suits c =
    let g = c.args.context.now in
    prepared_rule-suits (program g) g.prepared_rules.items c.requires.context.rows c.requires.context.valid c.args.rule c.requires.rule c.index.result.now c.index.ensures

pub returns-clause-side_bounds : goal.returns-clause-side_bounds
returns-clause-side_bounds c =
    let g = c.args.context.now in
    prepared_rule-side_bounds (program g) g.prepared_rules.items c.requires.context.rows c.requires.context.valid c.args.rule c.requires.rule c.index.result.now c.index.ensures

pub returns-clause-own : goal.returns-clause-own
returns-clause-own c =
    let g = c.args.context.now in
    prepared_rule-own (program g) g.prepared_rules.items c.requires.context.rows c.requires.context.valid c.args.rule c.requires.rule c.index.result.now c.index.ensures

pub returns-clause-places : goal.returns-clause-places
returns-clause-places c =
    let g = c.args.context.now in
    prepared_rule-places (program g) g.prepared_rules.items c.requires.context.rows c.requires.context.valid c.args.rule c.requires.rule c.index.result.now c.index.ensures
