-- The prepared answer is the answer of the call.
use Rattle.std.proofs.Common.{◌≡◌, Option, Some, Result, IfOk, MatchOption, subst}
use Rattle.std.proofs.lemmas.Result.{IfOk-weaker}
use Rattle.command_line.specs.Lines.{Words}
use Rattle.command_line.specs.Requests.{Request, HasRequest}
use Rattle.command_line.specs.Views.{request_of}
use Rattle.command_line.specs.declared.request.Request as declared
use Rattle.call_plans.specs.declared.status_text.StatusText.{StatusText}
use Rattle.koat_cli.specs.Calls.{Call}
use Rattle.koat_cli.specs.Answers.{IsAnswerToRequest, IsAnswer, ToRequest}

-- the words have the request that was read of them
pub asked : (words : Words) (o : Option declared.Request) (r : declared.Request) → o ≡ Some r
    → MatchOption o ((q : Request) → ¬ (HasRequest words q)) (λ q. HasRequest words (request_of q)) → HasRequest words (request_of r)
asked words o r e h =
    subst (λ (p : Option declared.Request). MatchOption p ((q : Request) → ¬ (HasRequest words q)) (λ q. HasRequest words (request_of q))) e h

-- the prepared answer is the answer of the call
pub prepared_answer_is_answer : {E : Type 0} (call : Call) (o : Option declared.Request) (r : declared.Request)
    (given : Result StatusText E) → o ≡ Some r
    → MatchOption o ((q : Request) → ¬ (HasRequest call.words q)) (λ q. HasRequest call.words (request_of q))
    → IfOk given (λ reply. IsAnswerToRequest call (request_of r) reply.status reply.text.items)
    → IfOk given (λ reply. IsAnswer call reply.status reply.text.items)
prepared_answer_is_answer call o r given e h answered =
    IfOk-weaker given (λ (reply : StatusText). IsAnswerToRequest call (request_of r) reply.status reply.text.items)
    (λ (reply : StatusText). IsAnswer call reply.status reply.text.items) (λ reply a. ToRequest (request_of r) (asked call.words o r e h) a) answered
