use Rattle.std.proofs.Common.{◌≡◌, drop, map}
use Rattle.cert_types.specs.Composing.{optional_poly}
use Rattle.cert_types.specs.Views.{member_of, local_of}
use Rattle.size_nodes.specs.NonlinearSideBounds.{is_nonlinear_over}
use Rattle.size_nodes.proofs.nonlinear.is_nonlinear_after.Given as goal

abbrev pub invariant-loop-rule : goal.invariant-loop-rule
invariant-loop-rule l =
    is_nonlinear_over (optional_poly l.poly) (map member_of l.cycle.members.now) (local_of l.local) (drop l.rule-index l.before)
    ≡ is_nonlinear_over (optional_poly l.poly) (map member_of l.cycle.members.now) (local_of l.local) l.before
