use Rattle.its_model.specs.Valid.{IsValidAtom}
use Rattle.its_model.specs.Views.{atom_of}
use Rattle.its_model.proofs.ListLaws.{mapped-all}
use Rattle.guard_prep.proofs.preparing.guard_rows.Goals as goal

pub push_atom-requires : goal.push_atom-requires
push_atom-requires c =
    mapped-all (IsValidAtom c.args.unknowns) atom_of c.args.atoms.now c.loop-atom.atom-index c.atom-item.result c.requires c.loop-atom-test.true c.atom-item.is
