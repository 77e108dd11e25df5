use Rattle.size_nodes.proofs.MembersAfter.{rules-ascend}
use Rattle.size_nodes.proofs.members.LoopMembers.new.Goals as goal

pub invariant_of-result : goal.invariant_of-result
invariant_of-result c = record { ascending = rules-ascend c.args.members.now c.requires }
