use Rattle.std.proofs.Common.{◌≤◌, take}
use Rattle.std.specs.List.{All}
use Rattle.poly_terms.specs.linear_forms.Limits.{certificate_limit}
use Rattle.cert_context.proofs.multipliers.are_within_limit.Given as goal

abbrev pub invariant-loop-multiplier : goal.invariant-loop-multiplier
invariant-loop-multiplier l = All (λ m. m ≤ certificate_limit) (take l.multiplier-index l.multipliers)
