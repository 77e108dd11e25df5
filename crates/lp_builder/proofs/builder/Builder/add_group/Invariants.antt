use Rattle.lp_builder.specs.Descriptions.{group_of}
use Rattle.lp_builder.proofs.Groups.{Written}
use Rattle.lp_builder.proofs.builder.Builder.add_group.Given as goal

-- the lines of the unknowns so far are written
abbrev pub invariant-loop-number : goal.invariant-loop-number
invariant-loop-number l = Written l.initial.self l.self (group_of l.initial.self.parameters l.unknowns l.rows l.goals l.fixed) l.number
