-- How a call ends, by the prepared answer and the effect of the sink.
use Rattle.std.proofs.Common.{◌≡◌, ◌≢◌, ◌<◌, List, ℕ, sym, subst}
use Rattle.outside_io.specs.Counts.{one_more}
use Rattle.call_plans.specs.declared.status.Status.{Status}
use Rattle.call_plans.specs.declared.status.Status.TheVariants.{ReadFault, WriteFault, Memory}
use Rattle.call_plans.specs.Calls.{SinkUse}
use Rattle.call_plans.specs.Meanings.{Appended}
use Rattle.koat_cli.specs.Calls.{Call}
use Rattle.koat_cli.specs.Answers.{IsAnswer}
use Rattle.koat_cli.specs.Ends.{IsStatusOfFault, Ends}
use Rattle.koat_cli.proofs.OneRequest.{never_write_fault, never_memory}

-- no text comes with the status of a fault of the sink or of running out of memory
pub not_write_fault : (call : Call) (s : Status) (x : List ℕ) → IsAnswer call s x → s ≢ WriteFault
not_write_fault call s x reply e = never_write_fault call x (subst (λ (t : Status). IsAnswer call t x) e reply)

pub not_memory : (call : Call) (s : Status) (x : List ℕ) → IsAnswer call s x → s ≢ Memory
not_memory call s x reply e = never_memory call x (subst (λ (t : Status). IsAnswer call t x) e reply)

-- a call whose text the sink took ends with its status
pub ended_whole : (call : Call) (put : SinkUse) (s : Status) (x : List ℕ) → IsAnswer call s x
    → (call.shelf.faults_before < call.shelf.faults_after → s ≡ ReadFault) → Appended put x
    → put.puts_after ≡ one_more put.puts_before → Ends s call put
ended_whole call put s x reply fault appended counted = record {
  wrote = λ other memory. record { text = x; says = reply; appended = appended };
  write_fault = λ e. absurd (not_write_fault call s x reply e);
  shelf_fault = λ less. subst IsStatusOfFault (sym (fault less)) tt;
  one_put = λ memory. counted;
  no_put = λ e. absurd (not_memory call s x reply e);
}
