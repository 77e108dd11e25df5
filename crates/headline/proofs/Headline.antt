-- What a process wrote that was to analyse a text that spells a program is true of this program.
use Rattle.std.proofs.Common.{◌≡◌, ℕ, List, sym, ◌∙◌, subst}
use Rattle.std.specs.Prelude.{IsTrue, IsFalse, IsSome}
use Rattle.std.specs.Process.{exit_status}
use Rattle.std.specs.declared.process.ExitCode.{ExitCode}
use Rattle.model.specs.Programs.{Program}
use Rattle.its_text.specs.Spelling.{Spells}
use Rattle.its_writer.specs.Texts.{canonical_text}
use Rattle.its_writer.proofs.SpellingLaws.{spelled_programs}
use Rattle.outcome.specs.Reports.{Report, is_bounded}
use Rattle.outcome.specs.Holding.{ReportHolds}
use Rattle.report_text.specs.States.{States}
use Rattle.command_line.specs.Lines.{Word, Words}
use Rattle.command_line.specs.Requests.{OfProgram, HasRequest}
use Rattle.command_line.specs.declared.task.ProgramTask.TheVariants.{Analyse}
use Rattle.call_plans.specs.Calls.{SinkUse}
use Rattle.call_plans.specs.Meanings.{Appended}
use Rattle.koat_cli.specs.Calls.{Call}
use Rattle.koat_cli.specs.WroteReport.{WroteReport}
use Rattle.headline.specs.Reasons.{EndsInReasons}
use Rattle.headline.specs.Words.{analyse_command}
use Rattle.headline.specs.Premises.{WasCalled}
use Rattle.headline.specs.Written.{WroteBounds, EndedWithBounds}
use Rattle.headline.specs.Headline.{WrittenBoundsHold}
use Rattle.headline.specs.AnyText.{BoundsOfAnyTextHold}
use Rattle.headline.proofs.Words.{words_have_requests}
use Rattle.headline.proofs.Reasons.{end_in_reasons}
use Rattle.headline.proofs.Statuses.{done_of, unknown_of}
use Rattle.headline.proofs.GivenPrograms.{program_given}

module _ (code : ExitCode) (call : Call) (put : SinkUse) (file : Word) (text : List ℕ) (p : Program)
    (was : WasCalled code call put (analyse_command file) file text) (spells : Spells text p) where
  asked : HasRequest call.words (OfProgram Analyse 10000 file)
  asked =
      subst (λ (words : Words). HasRequest words (OfProgram Analyse 10000 file)) (sym was.called)
      (words_have_requests.of_analyse file was.name).requested

  -- the report is on the program that the text spells
  bounds_written : (r : Report) → WroteReport call put 10000 file r → WroteBounds p put r
  bounds_written r wrote =
      let its_program : wrote.program ≡ p =
      program_given call.shelf was.files file text p wrote.program was.disclosed was.holds spells wrote.given in
      let stated : States p wrote.text r = subst (λ (q : Program). States q wrote.text r) its_program wrote.stated in
      let ends : EndsInReasons p r = end_in_reasons.each p r (spelled_programs.spelled text p spells).names in
      record {
        on_program = stated.report;
        reasons = ends.reasons;
        are_reasons = ends.are_reasons;
        appended = subst (λ (written : List ℕ). Appended put written) (stated.text_of ∙ ends.whole) wrote.appended;
        true_on_all_runs = subst (λ (q : Program). ReportHolds q r) its_program wrote.found.true_on_all_runs;
      }

  all_written : exit_status code ≡ 0
      → (r : Report) × WroteBounds p put r × IsTrue (is_bounded r) × IsSome r.total
  all_written e =
      let found =
      was.exits.means.done 10000 file asked (done_of was.exits.status (sym was.exits.numbered ∙ e)) in
      (found.0, bounds_written found.0 found.1, found.2, found.3)

  some_written : exit_status code ≡ 1 → (r : Report) × WroteBounds p put r × IsFalse (is_bounded r)
  some_written e =
      let found =
      was.exits.means.unknown 10000 file asked (unknown_of was.exits.status (sym was.exits.numbered ∙ e)) in
      (found.0, bounds_written found.0 found.1, found.2)

  ended_with_bounds : EndedWithBounds code p put
  ended_with_bounds = record { all = all_written; some = some_written }

pub any_text : BoundsOfAnyTextHold
any_text = record { each = ended_with_bounds }

pub headline : WrittenBoundsHold
headline = record {
  each = λ code call put file p was spellable.
      ended_with_bounds code call put file (canonical_text p) p was (spelled_programs.spells p spellable);
}
