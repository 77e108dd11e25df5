use Rattle.std.proofs.Common.{◌≤◌, take}
use Rattle.std.specs.Prelude.{nat_abs}
use Rattle.std.specs.List.{All}
use Rattle.farkas_cert.specs.linear_forms.Limits.{point_limit}
use Rattle.gap_checks.proofs.gap_shape.are_parts.Given as goal

abbrev pub invariant-loop-part : goal.invariant-loop-part
invariant-loop-part l =
    All (λ x. nat_abs x ≤ point_limit) (take l.part-index l.parts)
