use Rattle.its_model.specs.Views.{program_of}
use Rattle.while_answer.specs.while_text.Views.{source_of}
use Rattle.koat_cli.proofs.WhileAnswers.{translation_answered}
use Rattle.koat_cli.proofs.executions.translation.Goals as goal

pub returns : goal.returns
returns c =
    translation_answered (source_of c.args.source.now) (program_of c.in_ok-program.program) c.in_ok-print.field-0.items
    c.in_ok-program.ensures.program c.in_ok-print.ensures.text c.in_ok-print.ensures.spelled
