use Rattle.std.proofs.Common.{map, take}
use Rattle.std.specs.List.{All}
use Rattle.cert_types.specs.Views.{member_of}
use Rattle.cert_types.specs.cert_rules.AcceptsSizes.{AcceptsUp}
use Rattle.cert_context.specs.CheckContexts.{setting}
use Rattle.check_sizes.proofs.looping.first_refused_up.Given as goal

-- the upper side bounds of the members before this one are accepted
abbrev pub invariant-loop-member : goal.invariant-loop-member
invariant-loop-member l = All (AcceptsUp (setting l.context)) (map member_of (take l.member-index l.members))
