use Rattle.std.proofs.Common.{◌++◌, ◌∙◌, List, [], map, ap, sym}
use Rattle.std.proofs.lemmas.List.{append-nil}
use Rattle.model.specs.Paths.{pre}
use Rattle.cert_types.specs.cert_rules.Checks.{needed_from}
use Rattle.cert_types.specs.cert_program.Setting.{setting_of}
use Rattle.cert_types.specs.declared.side_bound.Member.{Member}
use Rattle.cert_types.specs.declared.side_bound.ResultVariable.{ResultVariable}
use Rattle.cert_types.specs.Views.{result_variable_of, member_of}
use Rattle.size_nodes.proofs.premises.needed_alone.Goals as goal

pub returns : goal.returns
returns c = λ p given.
    let m = member_of c.args.m.now in
    c.in_ok-push_needed.ensures p given
    ∙ (ap (λ (result_variables : List ResultVariable). map result_variable_of result_variables
    ++ needed_from (setting_of p) (map member_of c.new-nothing.result.members.now) m (pre p m.result_variable.rule)) c.new-result_variables.ensures.items
    ∙ (ap (λ (ms : List Member). needed_from (setting_of p) (map member_of ms) m (pre p m.result_variable.rule)) c.new-nothing.ensures
    ∙ sym (append-nil (needed_from (setting_of p) [] m (pre p m.result_variable.rule)))))
