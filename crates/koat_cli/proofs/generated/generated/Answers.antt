use Rattle.its_model.specs.Views.{program_of}
use Rattle.koat_cli.proofs.GeneratedTexts.{generated_text_answered}
use Rattle.koat_cli.proofs.generated.generated.Goals as goal

pub returns : goal.returns
returns c =
    generated_text_answered c.args.n (program_of c.in_ok-program.program) c.in_ok-print.field-0.items c.in_ok-program.ensures.program
    c.in_ok-print.ensures.text c.in_ok-program.ensures.spelled
