-- Texts of while programs are decided; and the answers on one.
use Rattle.std.proofs.Common.{◌≡◌, ℕ, List, ◌++◌, Bool, true, false, refl, sym, ◌∙◌, ap, subst, inl, inr}
use Rattle.model.specs.Programs.{Program}
use Rattle.its_writer.specs.Answers.{SpellsBack}
use Rattle.its_writer.specs.Texts.{canonical_text}
use Rattle.outcome.specs.Reports.{Report}
use Rattle.time_bounds.specs.Analysis.{IsAnalysis}
use Rattle.while_answer.specs.Executed.{translation_of}
use Rattle.while_answer.specs.Spelled.{IsWithin, IsFirstFault}
use Rattle.while_answer.specs.Texts.{point_lines, refusal_text}
use Rattle.while_answer.specs.while_text.Reading.{Source}
use Rattle.while_answer.proofs.Decided.{while_texts_decided}
use Rattle.while_answer.proofs.Executed.{executions_follow}
use Rattle.call_plans.specs.declared.status.Status.{Status}
use Rattle.call_plans.specs.declared.status.Status.TheVariants.{Done}
use Rattle.call_plans.specs.Lawful.{IsDecided, AreRows}
use Rattle.call_plans.specs.Plans.{HasRow}
use Rattle.call_plans.proofs.Rows.{row_of}
use Rattle.koat_cli.specs.Commands.Analyse.{StatesReport, analyse_answers}
use Rattle.koat_cli.specs.Commands.While.{StatesExecutions, while_answers}
use Rattle.koat_cli.specs.Commands.Translate.{translate_answers}
use Rattle.koat_cli.specs.Found.{HasReport}
use Rattle.koat_cli.specs.WhileTexts.{while_programs}
use Rattle.koat_cli.proofs.Determined.{Determined}
use Rattle.koat_cli.proofs.OneText.{report_text_unique}
use Rattle.koat_cli.proofs.ReportTables.{report_rows}
use Rattle.koat_cli.proofs.Statements.{stated-unique}

-- texts of while programs are decided
pub while_programs_decided : IsDecided while_programs
while_programs_decided = record {
  one = while_texts_decided.one;
  one_refusal = λ bytes. stated-unique (IsFirstFault bytes) refusal_text (while_texts_decided.one_fault bytes);
  apart = λ bytes a x stands refused. while_texts_decided.apart bytes a refused.subject stands refused.is;
}

-- the text of the executions
module _ (source : Source) (pivots : ℕ) where
  executions_text_unique : (r : Report) (x y : List ℕ) → StatesExecutions source pivots r x
      → StatesExecutions source pivots r y → x ≡ y
  executions_text_unique r x y a b =
      a.result_is
      ∙ (ap (λ (lines : List ℕ). point_lines 0 source.at ++ lines)
      (report_text_unique (translation_of source) pivots r a.report_text b.report_text a.stated b.stated)
      ∙ sym b.result_is)

  pub executions_rows : Determined → AreRows (while_answers pivots source)
  executions_rows laws =
      report_rows (IsAnalysis (translation_of source) pivots) (StatesExecutions source pivots)
      (laws.reports.each (translation_of source) pivots) (λ r x h. h.stated.found.found) executions_text_unique

  -- the positions before the text that `analyse` writes for the translation
  module _ (within : IsWithin source) (x y : List ℕ) (result_is : y ≡ point_lines 0 source.at ++ x) where
    executions_stated : (r : Report) → StatesReport (translation_of source) pivots r x
        → StatesExecutions source pivots r y
    executions_stated r h = record {
      report_text = x;
      stated = h;
      result_is = result_is;
      ends = executions_follow.ends source within;
      bounded = λ total is. executions_follow.bounded source total within (h.found.true_on_all_runs.total total is);
    }

    of_report : (all : Bool) → HasReport (λ r. StatesReport (translation_of source) pivots r x) all
        → HasReport (λ r. StatesExecutions source pivots r y) all
    of_report all h = record { report = h.report; holds = executions_stated h.report h.holds; bounded = h.bounded }

    row_of_translation : (s : Status) → HasRow (analyse_answers pivots (translation_of source)) s x
        → HasRow (while_answers pivots source) s y
    row_of_translation s (inl told) = inl (told.0, of_report true told.1)
    row_of_translation s (inr (inl told)) = inr (inl (told.0, of_report false told.1))
    row_of_translation s (inr (inr never)) = absurd never

    pub executions_answered : (p : Program) (s : Status) → p ≡ translation_of source → HasRow (analyse_answers pivots p) s x
        → HasRow (while_answers pivots source) s y
    executions_answered p s is told =
        row_of_translation s (subst (λ (q : Program). HasRow (analyse_answers pivots q) s x) is told)

-- the rows of a translation, and its text
pub translation_rows : (source : Source) → AreRows (translate_answers source)
translation_rows source = (row_of (λ x y a b. a.result_is ∙ sym b.result_is) (λ x a. tt) tt, tt)

pub translation_answered : (source : Source) (p : Program) (x : List ℕ) → p ≡ translation_of source → x ≡ canonical_text p
    → SpellsBack x p → HasRow (translate_answers source) Done x
translation_answered source p x is result_is spelled =
    inl (
      refl,
      record {
        result_is = result_is ∙ ap canonical_text is;
        spelled = subst (λ (q : Program). SpellsBack x q) is spelled;
      },
    )
