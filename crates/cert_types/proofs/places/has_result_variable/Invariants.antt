use Rattle.std.proofs.Common.{◌≡◌, drop, map}
use Rattle.cert_types.specs.Views.{member_of}
use Rattle.cert_types.specs.Sizes.{is_result_variable}
use Rattle.cert_types.proofs.places.has_result_variable.Given as goal

abbrev pub invariant-loop-member : goal.invariant-loop-member
invariant-loop-member l =
    is_result_variable (map member_of (drop l.member-index l.members)) l.rule l.place ≡ is_result_variable (map member_of l.members) l.rule l.place
