-- A call has at most one answer.
use Rattle.std.specs.Prelude.{◌≡◌, ◌≢◌, List, ℕ, IsSome}
use Rattle.outside_io.specs.Counts.{Rose}
use Rattle.call_plans.specs.declared.status.Status.{Status}
use Rattle.call_plans.specs.declared.status.Status.TheVariants.{Usage, ReadFault}
use Rattle.koat_cli.specs.Calls.{Call}
use Rattle.koat_cli.specs.Answers.{FetchesNothing, IsAnswer}
use Rattle.koat_cli.specs.OneAnswer.{AreDetermined}

-- the statuses are the same, and so are the texts
pub record AreOneAnswer (s t : Status) (x y : List ℕ) : Type 0 where
  pub status : s ≡ t
  pub text : x ≡ y

-- a call whose answer is the usage text has no other status, and a call that fetches nothing has at most one answer. If
-- the shelf discloses its contents, a call whose words don't ask for what a search finds has at most one answer, apart
-- from faults of reading that came with a rise of the shelf's count; so each status comes exactly in its case, except for
-- faults and running out of memory
pub record AnswersExcludeEachOther : Type 0 where
  pub other_words : (call : Call) (t : Status) (x y : List ℕ) → IsAnswer call Usage x → IsAnswer call t y → t ≡ Usage
  pub without_file : (call : Call) (s t : Status) (x y : List ℕ) → FetchesNothing call.words → IsAnswer call s x
      → IsAnswer call t y → AreOneAnswer s t x y
  pub without_faults : (call : Call) (s t : Status) (x y : List ℕ) → AreDetermined call.words → IsSome call.shelf.files_if_disclosed
      → ¬ (Rose call.shelf.faults_before call.shelf.faults_after) → IsAnswer call s x → IsAnswer call t y
      → AreOneAnswer s t x y
  pub read_faults_aside : (call : Call) (s t : Status) (x y : List ℕ) → AreDetermined call.words → IsSome call.shelf.files_if_disclosed → s ≢ ReadFault
      → t ≢ ReadFault → IsAnswer call s x → IsAnswer call t y → AreOneAnswer s t x y
