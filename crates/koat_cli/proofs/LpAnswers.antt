-- Texts of linear programs are decided, and the rows of `lp` are rows.
use Rattle.text_grammar.specs.ByteTexts.{tokens}
use Rattle.lp_text.specs.Lps.{Lp}
use Rattle.lp_text.specs.Problems.{program_in}
use Rattle.lp_text.specs.Spelled.{IsTextWithin}
use Rattle.lp_text.specs.Texts.{lps}
use Rattle.lp_text.proofs.LpParts.{lps_lawful}
use Rattle.lp_text.proofs.LpTexts.{written_parsed}
use Rattle.lp_answer.specs.Texts.{refusal_text}
use Rattle.lp_answer.proofs.OneAnswer.{one_answer}
use Rattle.call_plans.specs.declared.status.Status.TheVariants.{ProgramRefused}
use Rattle.call_plans.specs.Lawful.{IsDecided, AreRows}
use Rattle.call_plans.proofs.Rows.{row_of}
use Rattle.koat_cli.specs.Commands.Lp.{lp_answers}
use Rattle.koat_cli.specs.LpTexts.{linear_programs}
use Rattle.koat_cli.specs.ProgramTexts.{program_limit}
use Rattle.koat_cli.specs.Report.{too_long_text}
use Rattle.koat_cli.proofs.GrammarTexts.{texts_decided}

-- texts of linear programs are decided
pub lp_texts_decided : IsDecided linear_programs
lp_texts_decided =
    texts_decided lps lps_lawful tokens IsTextWithin written_parsed program_limit ProgramRefused too_long_text
    refusal_text

-- the rows of `lp`
pub lp_rows : (p : Lp) → AreRows (lp_answers p)
lp_rows p = (
  row_of (one_answer.one_end (program_in p)) (one_answer.end_text_only_at_end (program_in p))
      (λ ended stopped. one_answer.apart (program_in p) ended stopped, tt),
  (row_of (one_answer.one_stop (program_in p)) (one_answer.stop_text_only_without_end (program_in p)) tt, tt),
)
