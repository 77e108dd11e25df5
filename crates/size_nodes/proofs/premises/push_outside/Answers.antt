use Rattle.std.proofs.Common.{◌∙◌, ◌++◌, ap, List, map}
use Rattle.std.proofs.lemmas.Result.{on_ok_weaker}
use Rattle.cert_types.specs.cert_rules.Nodes.{ResultVariable}
use Rattle.cert_types.specs.Views.{result_variable_of, member_of}
use Rattle.size_nodes.proofs.MembersAfter.{outside-same}
use Rattle.size_nodes.proofs.premises.push_outside.Goals as goal

pub returns : goal.returns
returns c =
    on_ok_weaker c.push_each.result
    (λ h. h ∙ ap (λ (result_variables : List ResultVariable). map result_variable_of c.args.result_variables.now.items ++ result_variables)
    (outside-same (map member_of c.after.result.now) (map member_of c.args.cycle.now.members.now) c.args.rule c.args.places.now c.after.ensures))
    c.push_each.ensures
