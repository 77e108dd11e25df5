-- Two sums together: the charges of both, or nothing if they have too many.
use Rattle.std.proofs.Common.{◌≡◌, ℕ, ◌+◌, ◌<◌, ◌≤◌, Bool, true, false, List, ◌++◌, map, length, Option, Some, None, ap, arith}
use Rattle.std.specs.Prelude.{nat_le, if◌then◌else◌}
use Rattle.std.proofs.lemmas.Bool.Decides.{nat_tests}
use Rattle.std.proofs.lemmas.List.{length-map}
use Rattle.signed_bounds.specs.Bounds.{Signed, SumOf}
use Rattle.potential_nodes.specs.Facts.{SignedFact, SumFact}
use Rattle.potential_nodes.specs.Combinations.{charge_limit, both_parts, added_fact}
use Rattle.potential_types.specs.declared.facts.Charge.{Charge}
use Rattle.potential_types.specs.Views.{charge_of}

-- two sums with few charges together are added
pub added-few : (goal other : List Charge) (a b : Signed) → length goal + length other ≤ charge_limit
    → added_fact (Some (SumFact (map charge_of goal) a)) (Some (SumFact (map charge_of other) b))
    ≡ Some (SumFact (map charge_of goal ++ map charge_of other) (SumOf (both_parts a b)))
added-few goal other a b h =
    let one = length-map goal charge_of in
    let two = length-map other charge_of in
    let few : nat_le (length (map charge_of goal) + length (map charge_of other)) charge_limit ≡ true =
    grind (arith, nat_tests) in
    ap (λ (t : Bool). if t
    then Some (SumFact (map charge_of goal ++ map charge_of other) (SumOf (both_parts a b)))
    else None) few

-- two sums with many charges together aren't
pub added-many : (goal other : List Charge) (a b : Signed) → charge_limit < length goal + length other
    → added_fact (Some (SumFact (map charge_of goal) a)) (Some (SumFact (map charge_of other) b)) ≡ None
added-many goal other a b h =
    let one = length-map goal charge_of in
    let two = length-map other charge_of in
    let many : nat_le (length (map charge_of goal) + length (map charge_of other)) charge_limit ≡ false =
    grind (arith, nat_tests) in
    ap (λ (t : Bool). if t
    then Some (SumFact (map charge_of goal ++ map charge_of other) (SumOf (both_parts a b)))
    else None) many
