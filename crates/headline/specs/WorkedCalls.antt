-- Worked values: with which words and on which file a process was called, and what it wrote by its status.
use Rattle.std.specs.Prelude.{◌≡◌, ℕ, List, [], ◌∷◌, ◌++◌, codes, Some, None}
use Rattle.std.specs.FinMap.{empty, insert}
use Rattle.std.specs.Process.{exit_status}
use Rattle.std.specs.declared.process.ExitCode.{ExitCode}
use Rattle.model.specs.WorkedRuns.{countdown}
use Rattle.its_writer.specs.Texts.{canonical_text}
use Rattle.call_plans.specs.Calls.{SinkUse}
use Rattle.koat_cli.specs.Calls.{Call}
use Rattle.koat_cli.specs.Processes.{Exits}
use Rattle.headline.specs.Words.{check_command, replay_command}
use Rattle.headline.specs.Premises.{WasCalled}
use Rattle.headline.specs.Written.{EndedWithBounds}
use Rattle.headline.specs.WithFacts.{EndedWithFactsAndBounds}
use Rattle.headline.specs.Best.{EndedWithBest}
use Rattle.headline.specs.Checked.{WroteWhatHolds}
use Rattle.headline.specs.Worked.{sink_use_appending}
use Rattle.headline.specs.WorkedBest.{best_bytes}

-- the call with the words `check a b`, whose shelf discloses that it holds the canonical text of the program that counts
-- down as the file `a`, and no other file
abbrev pub check_call : Call
check_call = record {
  words = check_command (codes "a") (codes "b");
  fetches_before = None;
  shelf = record {
    files_if_disclosed = Some (insert empty (codes "a") (canonical_text countdown));
    faults_before = 0;
    faults_after = 0;
    fetches_after = None;
    taken = 0;
  };
}

-- A process that ended with this call was called with these words and this file, which holds this text. It wasn't called
-- with other words, nor on a file that isn't there, nor on one with another text.
pub record CallsAreOfWords : Type 0 where
  pub was : (code : ExitCode) (put : SinkUse) → Exits code check_call put
      → WasCalled code check_call put (check_command (codes "a") (codes "b")) (codes "a") (canonical_text countdown)
  pub other_words : (code : ExitCode) (put : SinkUse)
      → ¬ (WasCalled code check_call put (replay_command (codes "a") (codes "b")) (codes "a") (canonical_text countdown))
  pub other_file : (code : ExitCode) (put : SinkUse) (text : List ℕ)
      → ¬ (WasCalled code check_call put (check_command (codes "a") (codes "b")) (codes "b") text)
  pub other_text : (code : ExitCode) (put : SinkUse)
      → ¬ (WasCalled code check_call put (check_command (codes "a") (codes "b")) (codes "a") [])

-- what may be appended of the program with status 0: the text of bounds, and an accepted file with a gap
abbrev pub bounds_bytes : List ℕ
bounds_bytes =
    codes "bounded\ntime 1: 1\ntime 2: 9\ntotal: 10\n" ++ codes "size 1.1: A\nsize 1.2: B\nsize 2.1: 8\nsize 2.2: 9\n"

abbrev pub accepted_bytes : List ℕ
accepted_bytes = codes "accepted\ntime 2: 9\nsize 2.1: 8\ngap 2\n"

-- A process may have ended with status 0 if the bounds are what was appended, with facts or without; or the best bounds;
-- or, if it was to check a proof, facts. With that status it can't have appended nothing. For a status
-- other than 0 and 1 nothing is claimed of what was appended.
pub record EndsAreOfCountdown : Type 0 where
  pub bounds : (code : ExitCode) → exit_status code ≡ 0 → EndedWithBounds code countdown (sink_use_appending bounds_bytes)
  pub no_bounds : (code : ExitCode) → exit_status code ≡ 0 → ¬ (EndedWithBounds code countdown (sink_use_appending []))
  pub other_status : (code : ExitCode) → exit_status code ≡ 3 → EndedWithBounds code countdown (sink_use_appending [])
  pub with_facts : (code : ExitCode) → exit_status code ≡ 0
      → EndedWithFactsAndBounds code countdown (sink_use_appending bounds_bytes)
  pub no_bounds_with_facts : (code : ExitCode) → exit_status code ≡ 0
      → ¬ (EndedWithFactsAndBounds code countdown (sink_use_appending []))
  pub best : (code : ExitCode) → exit_status code ≡ 0 → EndedWithBest code countdown (sink_use_appending best_bytes)
  pub no_best : (code : ExitCode) → exit_status code ≡ 0 → ¬ (EndedWithBest code countdown (sink_use_appending []))
  pub checked : WroteWhatHolds countdown (sink_use_appending accepted_bytes)
  pub not_checked : ¬ (WroteWhatHolds countdown (sink_use_appending []))
