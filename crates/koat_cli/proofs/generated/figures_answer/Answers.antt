use Rattle.its_model.specs.Views.{program_of}
use Rattle.its_writer.specs.Generated as plain
use Rattle.koat_cli.proofs.GeneratedTexts.{figures_answered}
use Rattle.koat_cli.proofs.generated.figures_answer.Goals as goal

pub returns : goal.returns
returns c =
    figures_answered (program_of c.in_ok-program.program) (plain.generated c.args.n) c.in_ok-found.found c.status_of.result
    c.in_ok-figures.field-0.items c.in_ok-program.ensures.program c.in_ok-found.ensures.found c.in_ok-found.ensures.holds
    c.in_ok-found.ensures.reasons c.in_ok-found.ensures.lemmas c.in_ok-figures.ensures c.status_of.ensures
