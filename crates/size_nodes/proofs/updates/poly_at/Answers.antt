use Rattle.std.proofs.Common.{◌∙◌}
use Rattle.cert_types.specs.Views.{result_variable_of}
use Rattle.size_nodes.proofs.ProgramMembers.{poly_is, poly_few}
use Rattle.size_nodes.proofs.updates.poly_at.Goals as goal

pub returns-clause-seen : goal.returns-clause-seen
returns-clause-seen c = λ p rows is.
    c.update_at.ensures ∙ poly_is p c.args.prepared_rules.now rows (result_variable_of c.args.result_variable) is c.index-prepared_rules-result_variable.result c.index-prepared_rules-result_variable.is

pub returns-clause-few : goal.returns-clause-few
returns-clause-few c =
    let g = c.requires.1 in
    poly_few c.requires.0 c.args.prepared_rules.now g.1.0 g.0 (result_variable_of c.args.result_variable) g.1.1 c.index-prepared_rules-result_variable.result c.index-prepared_rules-result_variable.is c.update_at.result c.update_at.ensures
