use Rattle.std.proofs.Common.{◌≡◌, ◌++◌, map, drop}
use Rattle.model.specs.Programs.{Program}
use Rattle.cert_types.specs.cert_rules.Checks.{needed_into}
use Rattle.cert_types.specs.cert_program.Setting.{setting_of}
use Rattle.cert_types.specs.Views.{result_variable_of, member_of}
use Rattle.size_nodes.specs.Members.{AreMembersIn}
use Rattle.size_nodes.proofs.premises.needed_result_variables.Given as goal

-- the result variables so far and those of the remaining members are all
abbrev pub invariant-loop-m : goal.invariant-loop-m
invariant-loop-m l = (p : Program) → AreMembersIn p l.transitions (map member_of l.cycle.members.now)
    → map result_variable_of l.result_variables.items ++ needed_into (setting_of p) (map member_of l.cycle.members.now) (map member_of (drop l.m-index l.cycle.members.now))
    ≡ needed_into (setting_of p) (map member_of l.cycle.members.now) (map member_of l.cycle.members.now)
