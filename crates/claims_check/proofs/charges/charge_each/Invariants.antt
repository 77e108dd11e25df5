use Rattle.std.proofs.Common.{◌≡◌, take, map}
use Rattle.poly_terms.specs.Views.{poly_of}
use Rattle.potential_types.specs.Views.{charge_of}
use Rattle.program_claims.specs.Copies.{charge_each}
use Rattle.claims_check.proofs.charges.charge_each.Given as goal

-- the rules passed are charged
abbrev pub invariant-loop-rule : goal.invariant-loop-rule
invariant-loop-rule l = map charge_of l.charges.items ≡ charge_each (poly_of l.form) (take l.rule-index l.rules)
