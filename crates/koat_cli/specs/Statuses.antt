-- The statuses of the answers to a request.
use Rattle.std.specs.Prelude.{◌==◌, ℕ, List, [], ◌∷◌, IsTrue}
use Rattle.std.specs.List.{list_any}
use Rattle.command_line.specs.Requests.{Request, OfProgram, OfPair, OfNumber, OfFile, While, HasRequest}
use Rattle.command_line.specs.declared.task.ProgramTask.TheVariants.{Analyse, Prove, Facts, Best, Certify}
use Rattle.command_line.specs.declared.task.PairTask.TheVariants.{Check, Replay, Lasso}
use Rattle.command_line.specs.declared.task.NumberTask.TheVariants.{Generate, Selfrun}
use Rattle.command_line.specs.declared.task.FileTask.TheVariants.{Lp, Translate}
use Rattle.call_plans.specs.declared.status.Status.{Status}
use Rattle.call_plans.specs.declared.status.Status.TheVariants.{Done, Unknown, ReadFault, ProgramRefused, ProofRefused}
use Rattle.call_plans.specs.declared.status.Status.TheVariants.{NotAccepted, RunRefused, NotARun}
use Rattle.call_plans.specs.Numbers.{number_of}
use Rattle.koat_cli.specs.Calls.{Call}
use Rattle.koat_cli.specs.Answers.{IsAnswer}

-- the statuses of the answers to a request: those if a file can't be read or is refused, in the order of the files, and
-- those of its table
abbrev pub statuses_of : Request → List Status
statuses_of (OfProgram Analyse pivots file) = ReadFault ∷ ProgramRefused ∷ Done ∷ Unknown ∷ []
statuses_of (OfProgram Prove pivots file) = ReadFault ∷ ProgramRefused ∷ Done ∷ Unknown ∷ []
statuses_of (OfProgram Facts pivots file) = ReadFault ∷ ProgramRefused ∷ Done ∷ Unknown ∷ []
statuses_of (OfProgram Best pivots file) = ReadFault ∷ ProgramRefused ∷ Done ∷ Unknown ∷ []
statuses_of (OfProgram Certify pivots file) = ReadFault ∷ ProgramRefused ∷ Done ∷ []
statuses_of (OfPair Check file second) = ReadFault ∷ ProgramRefused ∷ ProofRefused ∷ Done ∷ NotAccepted ∷ []
statuses_of (OfPair Replay file second) = ReadFault ∷ ProgramRefused ∷ RunRefused ∷ Done ∷ NotARun ∷ []
statuses_of (OfPair Lasso file second) = ReadFault ∷ ProgramRefused ∷ RunRefused ∷ Done ∷ NotARun ∷ []
statuses_of (OfNumber Generate n) = Done ∷ []
statuses_of (OfNumber Selfrun n) = Done ∷ Unknown ∷ []
statuses_of (OfFile Lp file) = ReadFault ∷ ProgramRefused ∷ Done ∷ Unknown ∷ []
statuses_of (OfFile Translate file) = ReadFault ∷ ProgramRefused ∷ Done ∷ []
statuses_of (While pivots file) = ReadFault ∷ ProgramRefused ∷ Done ∷ Unknown ∷ []

-- the status is one of these, by its number
abbrev pub IsAmong : List Status → Status → Type 0
IsAmong statuses status = IsTrue (list_any (λ one. number_of one == number_of status) statuses)

-- whatever a call sees of the shelf, the status of its answer to a request is one of those of the request
pub record AnswersHaveStatuses : Type 0 where
  pub each : (call : Call) (request : Request) (status : Status) (text : List ℕ) → HasRequest call.words request
      → IsAnswer call status text → IsAmong (statuses_of request) status
