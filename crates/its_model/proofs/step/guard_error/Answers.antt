use Rattle.std.proofs.Common.{◌+◌, length}
use Rattle.its_model.specs.Valid.{IsValidAtom}
use Rattle.its_model.specs.Views.{atom_of}
use Rattle.its_model.proofs.ListLaws.{mapped-all}
use Rattle.its_model.proofs.step.guard_error.Goals as goal

pub atom_error-requires : goal.atom_error-requires
atom_error-requires c =
    mapped-all (IsValidAtom (length c.args.left.now + length c.args.free.now)) atom_of c.args.atoms.now c.loop-i.i c.index-atoms-i.result c.requires.valid c.loop-i-test.true c.index-atoms-i.is
