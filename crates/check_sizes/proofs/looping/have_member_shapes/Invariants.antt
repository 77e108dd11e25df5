use Rattle.std.proofs.Common.{map, take}
use Rattle.std.specs.List.{All}
use Rattle.cert_types.specs.Views.{member_of}
use Rattle.cert_types.specs.cert_rules.AcceptsSizes.{HasMemberShape}
use Rattle.cert_context.specs.CheckContexts.{setting}
use Rattle.check_sizes.proofs.looping.have_member_shapes.Given as goal

-- the shapes of the members before this one are right
abbrev pub invariant-loop-member : goal.invariant-loop-member
invariant-loop-member l = All (HasMemberShape (setting l.context)) (map member_of (take l.member-index l.members))
