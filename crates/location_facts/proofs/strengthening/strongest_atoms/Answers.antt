use Rattle.std.proofs.Common.{◌≡◌, ℕ, subst, map, arith}
use Rattle.std.specs.List.{range_with_len}
use Rattle.its_model.specs.Views.{atom_of}
use Rattle.location_facts.specs.Strengthening.{atoms_with}
use Rattle.location_facts.proofs.AtomLists.{plus-pushed}
use Rattle.location_facts.proofs.strengthening.strongest_atoms.Goals as goal

pub loop-plus-preserved : goal.loop-plus-preserved
loop-plus-preserved c =
    plus-pushed c.args.facts.now c.loop-plus.plus (map atom_of c.loop-plus.atoms.items)
    (map atom_of c.push_with_plus.new.atoms.items) c.loop-plus.invariant c.in_ok-push_with_plus.ensures

pub returns : goal.returns
returns c =
    let all : c.loop-plus.plus ≡ 9 = omega arith in
    subst (λ (n : ℕ). map atom_of c.loop-plus.atoms.items ≡ atoms_with c.args.facts.now (range_with_len 0 n)) all
    c.loop-plus.invariant
