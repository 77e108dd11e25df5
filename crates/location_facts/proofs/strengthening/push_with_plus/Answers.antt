use Rattle.std.proofs.Common.{◌≡◌, ℕ, ◌++◌, subst, map, arith}
use Rattle.std.specs.List.{range_with_len}
use Rattle.its_model.specs.Views.{atom_of}
use Rattle.location_facts.specs.Strengthening.{atoms_with_plus}
use Rattle.location_facts.proofs.AtomLists.{minus-pushed}
use Rattle.location_facts.proofs.strengthening.push_with_plus.Goals as goal

pub loop-minus-preserved : goal.loop-minus-preserved
loop-minus-preserved c =
    minus-pushed c.args.facts.now c.args.plus c.loop-minus.minus (map atom_of c.args.atoms.now.items)
    (map atom_of c.loop-minus.atoms.items) (map atom_of c.push_atom.new.atoms.items) c.greatest_least.result
    c.loop-minus.invariant c.greatest_least.ensures c.in_ok-push_atom.ensures

pub returns : goal.returns
returns c =
    let all : c.loop-minus.minus ≡ 9 = omega arith in
    subst (λ (n : ℕ). map atom_of c.loop-minus.atoms.items
    ≡ map atom_of c.args.atoms.now.items ++ atoms_with_plus c.args.facts.now c.args.plus (range_with_len 0 n)) all
    c.loop-minus.invariant
