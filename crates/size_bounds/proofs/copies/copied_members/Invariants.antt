use Rattle.std.proofs.Common.{◌≡◌, ◌++◌, drop, map}
use Rattle.cert_types.specs.Views.{member_of}
use Rattle.size_bounds.proofs.copies.copied_members.Given as goal

abbrev pub invariant-loop-member : goal.invariant-loop-member
invariant-loop-member l =
    map member_of l.copies.items ++ map member_of (drop l.member-index l.members) ≡ map member_of l.members
