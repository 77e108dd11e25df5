use Rattle.std.proofs.Common.{◌≡◌, drop, map}
use Rattle.std.specs.List.{list_all}
use Rattle.potential_nodes.specs.Limits.{is_small_charge}
use Rattle.potential_types.specs.Views.{charge_of}
use Rattle.potential_types.proofs.limits.all_charges.Given as goal

-- whether all charges are small depends on those left
abbrev pub invariant-loop-charge : goal.invariant-loop-charge
invariant-loop-charge l =
    list_all is_small_charge (map charge_of (drop l.charge-index l.charges))
    ≡ list_all is_small_charge (map charge_of (l.charges))
