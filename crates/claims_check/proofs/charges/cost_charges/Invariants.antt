use Rattle.std.proofs.Common.{◌≡◌, ◌+◌, ◌++◌, drop, map}
use Rattle.its_model.specs.Views.{rule_of}
use Rattle.potential_types.specs.Views.{charge_of}
use Rattle.program_claims.specs.Copies.{cost_charges}
use Rattle.claims_check.proofs.charges.cost_charges.Given as goal

-- the charges of the rules so far, and then those of the rules that are left
abbrev pub invariant-loop-i : goal.invariant-loop-i
invariant-loop-i l =
    map charge_of l.charges.items ++ cost_charges (l.i + 1) (map rule_of (drop l.i l.program.rules.items))
    ≡ cost_charges 1 (map rule_of l.program.rules.items)
