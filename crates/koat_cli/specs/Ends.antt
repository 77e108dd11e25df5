-- How a call ends, and what is on the sink then.
use Rattle.std.specs.Prelude.{◌≡◌, ◌≢◌, ◌<◌, ℕ, List, ⊤}
use Rattle.outside_io.specs.Counts.{Rose, one_more}
use Rattle.outside_io.specs.Putting.{AppendsPrefix}
use Rattle.call_plans.specs.declared.status.Status.{Status}
use Rattle.call_plans.specs.declared.status.Status.TheVariants.{Done, Unknown, Usage, ReadFault, WriteFault, Memory}
use Rattle.call_plans.specs.declared.status.Status.TheVariants.{ProgramRefused, ProofRefused, NotAccepted, RunRefused}
use Rattle.call_plans.specs.declared.status.Status.TheVariants.{NotARun}
use Rattle.call_plans.specs.Calls.{SinkUse}
use Rattle.call_plans.specs.Meanings.{Appended}
use Rattle.koat_cli.specs.Calls.{Call}
use Rattle.koat_cli.specs.Answers.{IsAnswer}

-- the text that is the call's answer with this status was appended, whole, to what was written
pub record WroteWhole (status : Status) (call : Call) (put : SinkUse) : Type 0 where
  pub text : List ℕ
  pub says : IsAnswer call status text
  pub appended : Appended put text

-- the sink had a fault in this call, and some first bytes of the text of the status that would have come were appended;
-- if the shelf's count of faults is greater than before, that is the status of a fault of reading
pub record WroteInPart (call : Call) (put : SinkUse) : Type 0 where
  pub fault : Rose put.faults_before put.faults_after
  pub status : Status
  pub after_shelf_fault : call.shelf.faults_before < call.shelf.faults_after → status ≡ ReadFault
  pub text : List ℕ
  pub says : IsAnswer call status text
  pub appended : AppendsPrefix put.written_before put.written_after text

-- the statuses of faults and of running out of memory
abbrev pub IsStatusOfFault : Status → Type 0
IsStatusOfFault Done = ⊥
IsStatusOfFault Unknown = ⊥
IsStatusOfFault Usage = ⊥
IsStatusOfFault ReadFault = ⊤
IsStatusOfFault WriteFault = ⊤
IsStatusOfFault Memory = ⊤
IsStatusOfFault ProgramRefused = ⊥
IsStatusOfFault ProofRefused = ⊥
IsStatusOfFault NotAccepted = ⊥
IsStatusOfFault RunRefused = ⊥
IsStatusOfFault NotARun = ⊥

-- how a call ends: with each status but that of a fault of the sink and that of running out of memory its whole text
-- was written; if the shelf's count of faults is greater than before, only those of faults and of running out of memory
-- come; and there was one put, or none if memory ran out
pub record Ends (status : Status) (call : Call) (put : SinkUse) : Type 0 where
  pub wrote : status ≢ WriteFault → status ≢ Memory → WroteWhole status call put
  pub write_fault : status ≡ WriteFault → WroteInPart call put
  pub shelf_fault : call.shelf.faults_before < call.shelf.faults_after → IsStatusOfFault status
  pub one_put : status ≢ Memory → put.puts_after ≡ one_more put.puts_before
  pub no_put : status ≡ Memory → put.puts_after ≡ put.puts_before
