use Rattle.std.proofs.Common.{◌≡◌, ◌∙◌, List, length, map, ap, sym, subst, Some, arith, rules}
use Rattle.std.specs.Prelude.{vec_len}
use Rattle.std.proofs.lemmas.List.{length-map}
use Rattle.potential_nodes.specs.Combinations as plain
use Rattle.potential_types.specs.declared.facts.Charge.{Charge}
use Rattle.potential_types.specs.Views.{charge_of}
use Rattle.check_potentials.specs.Combining.{IsTakenFrom}
use Rattle.check_potentials.proofs.TakingLaws.{charge_of-remove}
use Rattle.check_potentials.proofs.combining.without_charge.Goals as goal

pub remove-requires : goal.remove-requires
remove-requires c =
    let own = charge_of c.args.charge.now in
    let here = subst (λ (cs : List Charge). IsTakenFrom (plain.without_charge own (map charge_of cs)) (map charge_of cs)
    c.position-found.result) c.deref.ensures.value c.position-found.ensures in
    let taken = rw c.in-Some.is at here in
    let len : vec_len c.args.charges ≡ length c.args.charges.items = search rules in
    omega (arith, taken.0, length-map c.args.charges.items charge_of)

pub returns-in-None : goal.returns-in-None
returns-in-None c =
    let own = charge_of c.args.charge.now in
    let here = subst (λ (cs : List Charge). IsTakenFrom (plain.without_charge own (map charge_of cs)) (map charge_of cs)
    c.position-found.result) c.deref.ensures.value c.position-found.ensures in
    sym (rw c.in-None.is at here)

pub returns-in-Some : goal.returns-in-Some
returns-in-Some c =
    let own = charge_of c.args.charge.now in
    let here = subst (λ (cs : List Charge). IsTakenFrom (plain.without_charge own (map charge_of cs)) (map charge_of cs)
    c.position-found.result) c.deref.ensures.value c.position-found.ensures in
    let taken = rw c.in-Some.is at here in
    sym (taken.1
    ∙ (ap Some (sym (charge_of-remove c.args.charges.items c.in-Some.index))
    ∙ ap (λ (cs : List Charge). Some (map charge_of cs)) (sym c.remove.ensures.items)))
