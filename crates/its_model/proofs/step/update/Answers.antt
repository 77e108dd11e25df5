use Rattle.std.proofs.Common.{◌+◌, length}
use Rattle.poly_terms.specs.Views.{term_of}
use Rattle.its_model.specs.Valid.{IsValidTerm}
use Rattle.its_model.proofs.ListLaws.{mapped-all}
use Rattle.its_model.proofs.step.update.Goals as goal

pub value_in_parts-requires : goal.value_in_parts-requires
value_in_parts-requires c =
    (mapped-all (IsValidTerm (length c.args.left.now + length c.args.free.now)) term_of c.args.updates.now c.loop-u.u-index c.u-item.result c.requires.valid c.loop-u-test.true c.u-item.is).variables
