use Rattle.std.proofs.Common.{take}
use Rattle.std.specs.Prelude.{nat_abs}
use Rattle.std.specs.List.{All}
use Rattle.cert_types.specs.cert_rules.Limits.{IsInLimit}
use Rattle.cert_context.proofs.multipliers.are_within.Given as goal

abbrev pub invariant-loop-coef : goal.invariant-loop-coef
invariant-loop-coef l = All (λ c. IsInLimit (nat_abs c)) (take l.coef-index l.coefs)
