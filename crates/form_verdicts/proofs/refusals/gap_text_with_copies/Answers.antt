use Rattle.std.proofs.Common.{◌≡◌, subst}
use Rattle.std.specs.Prelude.{IfOk}
use Rattle.model.specs.Programs.{Program}
use Rattle.its_model.specs.Views.{program_of}
use Rattle.cert_types.specs.AnswerViews.{fault_of}
use Rattle.check_text.specs.Texts.{refused_gap_text}
use Rattle.form_verdicts.proofs.SpelledAbove.{spelled-above}
use Rattle.form_verdicts.proofs.refusals.gap_text_with_copies.Goals as goal

pub returns : goal.returns
returns c =
    subst
    (λ (q : Program). IfOk c.gap_text.result (λ text. text.items ≡ refused_gap_text q c.args.gap (fault_of c.args.fault)))
    (spelled-above (program_of c.args.program.now) (program_of c.in_ok-above.above) c.args.section.now
    c.in_ok-above.ensures) c.gap_text.ensures
