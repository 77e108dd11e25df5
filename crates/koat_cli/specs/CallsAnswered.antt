-- The status with which a call ends, by its request and by the contents of the shelf.
use Rattle.std.specs.Prelude.{◌≡◌, ◌≢◌, ◌↔◌, Some}
use Rattle.outside_io.specs.Counts.{Rose}
use Rattle.outside_io.specs.Files.{Files}
use Rattle.command_line.specs.Requests.{Request, HasRequest}
use Rattle.call_plans.specs.declared.status.Status.{Status}
use Rattle.call_plans.specs.declared.status.Status.TheVariants.{Usage, ReadFault, WriteFault, Memory}
use Rattle.call_plans.specs.Calls.{SinkUse}
use Rattle.call_plans.specs.Plans.{IsLast}
use Rattle.call_plans.specs.Endings.{EndsOn}
use Rattle.koat_cli.specs.Calls.{Call}
use Rattle.koat_cli.specs.RequestPlans.{plan_of}
use Rattle.koat_cli.specs.Answers.{HaveNoRequest}
use Rattle.koat_cli.specs.OneAnswer.{IsDetermined}
use Rattle.koat_cli.specs.Ends.{Ends}

-- the shelf discloses these contents; and with the status of a fault of reading its count of faults doesn't rise
pub record IsOnShelf (status : Status) (call : Call) (files : Files) : Type 0 where
  pub held : call.shelf.files_if_disclosed ≡ Some files
  pub no_read_fault : status ≡ ReadFault → ¬ (Rose call.shelf.faults_before call.shelf.faults_after)

-- a call ends with this status, which isn't that of a fault of the sink, nor that of memory that ran out
pub record EndsWell (status : Status) (call : Call) (put : SinkUse) : Type 0 where
  pub no_write_fault : status ≢ WriteFault
  pub ends : Ends status call put
  pub memory : status ≢ Memory

-- With which status a call ends, if memory suffices and the sink has no fault. If the shelf discloses its contents,
-- and has no fault that would give the status, a call with a request that doesn't ask for what a search finds ends
-- with a status exactly if the contents say so by the request's plan: with that of a fault of reading if a file that
-- is reached is lacking, with that of a refusal if one is too long or its bytes have no meaning, and with that of a
-- row if the files have the meaning that the row is for. A call with a request for which no file is read ends with a
-- status exactly if its table says so, whatever the shelf discloses. And a call ends with `Usage` exactly if its words
-- have no request.
pub record CallsAreAnswered : Type 0 where
  pub on_shelf : (call : Call) (put : SinkUse) (files : Files) (request : Request) (s t : Status)
      → HasRequest call.words request → IsDetermined request → IsOnShelf s call files → EndsWell s call put
      → (s ≡ t) ↔ EndsOn files (plan_of request) t
  pub without_file : (call : Call) (put : SinkUse) (files : Files) (request : Request) (s t : Status)
      → HasRequest call.words request → IsLast (plan_of request) → EndsWell s call put
      → (s ≡ t) ↔ EndsOn files (plan_of request) t
  pub usage : (call : Call) (put : SinkUse) (s : Status) → EndsWell s call put
      → (s ≡ Usage) ↔ HaveNoRequest call.words
