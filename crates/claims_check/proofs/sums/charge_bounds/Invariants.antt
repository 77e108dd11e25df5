use Rattle.std.proofs.Common.{◌≡◌, drop, map}
use Rattle.std.specs.Prelude.{option_map}
use Rattle.signed_bounds.specs.Views.{signeds_of}
use Rattle.potential_types.specs.Views.{charge_of, fact_view}
use Rattle.program_claims.specs.Sums.{charge_bounds}
use Rattle.claims_check.specs.Parts.{in_front}
use Rattle.claims_check.proofs.sums.charge_bounds.Given as goal

-- the bounds so far, in front of those of the charges that are left
abbrev pub invariant-loop-i : goal.invariant-loop-i
invariant-loop-i l =
    option_map (in_front (signeds_of l.parts.items))
    (charge_bounds (map fact_view l.known.facts.now) (map charge_of (drop l.i l.charges)) (drop l.i l.numbers))
    ≡ charge_bounds (map fact_view l.known.facts.now) (map charge_of l.charges) l.numbers
