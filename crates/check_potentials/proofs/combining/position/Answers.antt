use Rattle.std.proofs.Common.{◌≡◌, ◌<◌, length, take, drop, map, ℕ, sym, subst, ◌∙◌, add-one, arith}
use Rattle.std.proofs.lemmas.List.{length-map}
use Rattle.potential_nodes.specs.Combinations.{without_charge}
use Rattle.potential_types.specs.Views.{charge_of}
use Rattle.check_potentials.proofs.TakingLaws.{behind, first_fails, first_passes, first_none, charge_of-get}
use Rattle.check_potentials.proofs.combining.position.Goals as goal

pub returns-then-same_charge : goal.returns-then-same_charge
returns-then-same_charge c =
    let charges = map charge_of c.args.charges.now in
    let inside : c.loop-i.i < length charges = omega (arith, length-map c.args.charges.now charge_of) in (
      inside,
      sym c.loop-i.invariant
          ∙ first_passes (charge_of c.args.charge.now) charges c.loop-i.i (charge_of c.index-charges-i.result) inside
          (charge_of-get c.args.charges.now c.loop-i.i c.index-charges-i.result (omega arith) c.index-charges-i.is)
          (sym c.same_charge.ensures ∙ c.if-same_charge.true),
    )

pub loop-i-preserved : goal.loop-i-preserved
loop-i-preserved c =
    let charges = map charge_of c.args.charges.now in
    let own = charge_of c.args.charge.now in
    let inside : c.loop-i.i < length charges = omega (arith, length-map c.args.charges.now charge_of) in
    subst (λ (j : ℕ). behind (take j charges) (without_charge own (drop j charges)) ≡ without_charge own charges)
    (sym (add-one c.loop-i.i))
    (sym (first_fails own charges c.loop-i.i (charge_of c.index-charges-i.result) inside
    (charge_of-get c.args.charges.now c.loop-i.i c.index-charges-i.result (omega arith) c.index-charges-i.is)
    (sym c.same_charge.ensures ∙ c.if-same_charge.false))
    ∙ c.loop-i.invariant)

pub returns : goal.returns
returns c =
    let charges = map charge_of c.args.charges.now in
    sym c.loop-i.invariant
    ∙ first_none (charge_of c.args.charge.now) charges c.loop-i.i
    (omega (arith, length-map c.args.charges.now charge_of))
