use Rattle.std.proofs.Common.{◌≡◌, drop, map}
use Rattle.model.specs.Programs.{Program}
use Rattle.cert_types.specs.cert_program.Setting.{setting_of}
use Rattle.cert_types.specs.Views.{member_of}
use Rattle.size_nodes.specs.Members.{AreMembersIn}
use Rattle.size_nodes.specs.NonlinearSideBounds.{first_nonlinear}
use Rattle.size_nodes.proofs.nonlinear.first_nonlinear.Given as goal

abbrev pub invariant-loop-member : goal.invariant-loop-member
invariant-loop-member l =
    (p : Program) → AreMembersIn p l.transitions (map member_of l.cycle.members.now)
    → first_nonlinear (setting_of p) (map member_of l.cycle.members.now) (map member_of (drop l.member-index l.cycle.members.now))
    ≡ first_nonlinear (setting_of p) (map member_of l.cycle.members.now) (map member_of l.cycle.members.now)
