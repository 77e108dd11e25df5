use Rattle.std.proofs.Common.{◌≡◌, take, map}
use Rattle.potential_types.specs.Views.{charge_of}
use Rattle.potential_types.proofs.copies.copied_charges.Given as goal

-- the charges passed are copied
abbrev pub invariant-loop-charge : goal.invariant-loop-charge
invariant-loop-charge l = map charge_of l.copies.items ≡ map charge_of (take l.charge-index l.charges)
