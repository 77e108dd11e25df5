use Rattle.std.specs.Prelude.{map}
use Rattle.its_model.specs.Views.{name_of, program_of}
use Rattle.while_tree.specs.Views.{statements_of}
use Rattle.while_front.proofs.ValidPrograms.{valid_if}
use Rattle.while_front.proofs.translation.translate.Goals as goal

pub returns-clause-valid : goal.returns-clause-valid
returns-clause-valid c =
    valid_if program_of (map name_of c.args.w.now.names.items) (statements_of c.args.w.now.body.items) c.requires
    c.translated.result c.translated.ensures
