-- The answer of a call: its status, and its text.
use Rattle.std.specs.Prelude.{◌≡◌, List, ℕ}
use Rattle.command_line.specs.Lines.{Words}
use Rattle.command_line.specs.Requests.{Request, HasRequest}
use Rattle.call_plans.specs.declared.status.Status.{Status}
use Rattle.call_plans.specs.declared.status.Status.TheVariants.{Usage}
use Rattle.call_plans.specs.Plans.{IsLast, IsAnswerByPlan}
use Rattle.koat_cli.specs.Calls.{Call}
use Rattle.koat_cli.specs.Report.{usage_text}
use Rattle.koat_cli.specs.RequestPlans.{plan_of}

-- the words have no request
abbrev pub HaveNoRequest : Words → Type 0
HaveNoRequest words = (request : Request) → ¬ (HasRequest words request)

-- no file is fetched for the words
abbrev pub FetchesNothing : Words → Type 0
FetchesNothing words = (request : Request) → HasRequest words request → IsLast (plan_of request)

-- the answer to words without a request: the usage text; and no file is fetched
pub record IsUsageAnswer (call : Call) (status : Status) (text : List ℕ) : Type 0 where
  pub fetches : call.shelf.fetches_after ≡ call.fetches_before
  pub result_is : text ≡ usage_text
  pub ends : status ≡ Usage

-- the answer to the request is this status and this text
abbrev pub IsAnswerToRequest : Call → Request → Status → List ℕ → Type 0
IsAnswerToRequest call request status text = IsAnswerByPlan call.shelf call.fetches_before (plan_of request) status text

-- the answer of a call is this status and this text: for words without a request the usage text, and else the answer of
-- the plan of their request
pub data IsAnswer (call : Call) (status : Status) (text : List ℕ) : Type 0 where
  ToNothing : HaveNoRequest call.words → IsUsageAnswer call status text → IsAnswer call status text
  ToRequest : (request : Request) → HasRequest call.words request → IsAnswerToRequest call request status text
      → IsAnswer call status text
