-- The tally that a process wrote that was to replay a run is that of a run of the program that the text spells.
use Rattle.std.proofs.Common.{◌≡◌, ℕ, List, Some, sym, ◌∙◌, ap, subst, inl, inr, arith}
use Rattle.std.specs.Prelude.{IsTrue}
use Rattle.std.specs.FinMap.{get}
use Rattle.std.specs.Process.{exit_status}
use Rattle.std.specs.declared.process.ExitCode.{ExitCode}
use Rattle.model.specs.Programs.{Program}
use Rattle.its_text.specs.Spelling.{Spells}
use Rattle.its_writer.specs.Texts.{canonical_text}
use Rattle.its_writer.proofs.SpellingLaws.{spelled_programs}
use Rattle.run_replay.specs.Runs.{Run}
use Rattle.run_replay.specs.Spelled.{text_of}
use Rattle.command_line.specs.Lines.{Word, Words, is_value}
use Rattle.command_line.specs.Requests.{OfPair, HasRequest}
use Rattle.command_line.specs.declared.task.PairTask.TheVariants.{Replay}
use Rattle.call_plans.specs.declared.status.Status.{Status}
use Rattle.call_plans.specs.declared.status.Status.TheVariants.{Done}
use Rattle.call_plans.specs.Numbers.{number_of}
use Rattle.call_plans.specs.Sorts.{sort_of}
use Rattle.call_plans.specs.Calls.{SinkUse}
use Rattle.call_plans.specs.Meanings.{Appended, Wrote}
use Rattle.call_plans.specs.Plans.{HasRow}
use Rattle.call_plans.proofs.GivenFiles.{given}
use Rattle.koat_cli.specs.Calls.{Call}
use Rattle.koat_cli.specs.RequestPlans.{plan_of}
use Rattle.koat_cli.specs.Commands.Replay.{StatesTally, replay_answers}
use Rattle.headline.specs.Words.{replay_command}
use Rattle.headline.specs.Premises.{WasCalled}
use Rattle.headline.specs.Replayed.{WroteTally, TalliesAreOfRuns, TalliesAreOfRunsOfAnyText}
use Rattle.headline.proofs.Words.{words_have_requests}
use Rattle.headline.proofs.Statuses.{done_of}
use Rattle.headline.proofs.GivenPrograms.{same_text, program_given}

-- the row of the table with status 0 is that of the tally
tally_row : (p : Program) (run : Run) (x : List ℕ) → HasRow (replay_answers p run) Done x → StatesTally p run x
tally_row p run x (inl (e, stated)) = stated
tally_row p run x (inr (inl (e, bad))) = let none : 0 ≡ 10 = ap number_of e in absurd (omega (arith, none))
tally_row p run x (inr (inr never)) = absurd never

-- what was written of a run with this text
tally_written : (p : Program) (run : Run) (put : SinkUse) (text x : List ℕ) → text ≡ text_of run → StatesTally p run x
    → Appended put x → WroteTally p put text
tally_written p run put text x is_text stated appended = record {
  run = run;
  is_text = is_text;
  end = stated.in_range.0;
  is_run = stated.in_range.1.run;
  report = stated.report;
  on_program = stated.on_program;
  within_bounds = stated.within_bounds;
  appended = subst (λ (written : List ℕ). Appended put written) stated.result_is appended;
}

module _ (code : ExitCode) (call : Call) (put : SinkUse) (file second : Word) (spelling : List ℕ) (p : Program)
    (text : List ℕ) (was : WasCalled code call put (replay_command file second) file spelling)
    (second_name : IsTrue (is_value second)) (held : get was.files second ≡ Some text) (spells : Spells spelling p) where
  asked : HasRequest call.words (OfPair Replay file second)
  asked =
      subst (λ (words : Words). HasRequest words (OfPair Replay file second)) (sym was.called)
      (words_have_requests.of_replay file second was.name second_name).requested

  -- the tally is of a run of the program that the first file spells
  of_plan : Wrote call.shelf put (plan_of (OfPair Replay file second)) Done → WroteTally p put text
  of_plan (q, (gives, (run, (run_gives, (x, (row, appended)))))) =
      let its_program : q ≡ p =
      program_given call.shelf was.files file spelling p q was.disclosed was.holds spells gives in
      let read : text ≡ run_gives.bytes =
      same_text (get was.files second) text run_gives.bytes held
      (given call.shelf.files_if_disclosed was.files second run_gives.bytes was.disclosed run_gives.held) in
      subst (λ (r : Program). WroteTally r put text) its_program
      (tally_written q run put text x (read ∙ sym run_gives.stands.text) (tally_row q run x row) appended)

  ended_with_tally : exit_status code ≡ 0 → WroteTally p put text
  ended_with_tally e =
      let done : was.exits.status ≡ Done = done_of was.exits.status (sym was.exits.numbered ∙ e) in
      of_plan
      (subst (λ (s : Status). Wrote call.shelf put (plan_of (OfPair Replay file second)) s) done
      (was.exits.means.answered (OfPair Replay file second) asked (ap sort_of done)))

pub any_tallies : TalliesAreOfRunsOfAnyText
any_tallies = record { each = ended_with_tally }

pub tallies : TalliesAreOfRuns
tallies = record {
  each = λ code call put file second p text was second_name held spellable.
      ended_with_tally code call put file second (canonical_text p) p text was second_name held
      (spelled_programs.spells p spellable);
}
