-- A call answers at most one request; so the statuses of answers, refusals and faults differ.
use Rattle.std.proofs.Common.{◌≡◌, ◌≢◌, ◌⊎◌, ℕ, List, inl, inr, refl, subst, sym, ◌∙◌, ap}
use Rattle.command_line.specs.Requests.{Request, HasRequest}
use Rattle.command_line.proofs.OneWay.{read_in_one_way}
use Rattle.call_plans.specs.declared.status.Status.{Status}
use Rattle.call_plans.specs.declared.status.Status.TheVariants.{Usage, ReadFault, WriteFault, Memory}
use Rattle.call_plans.specs.Sorts.{Answer, Refusal, Other, sort_of}
use Rattle.call_plans.proofs.Meanings.{sort_in}
use Rattle.koat_cli.specs.Calls.{Call}
use Rattle.koat_cli.specs.Report.{usage_text}
use Rattle.koat_cli.specs.RequestPlans.{plan_of}
use Rattle.koat_cli.specs.Answers.{HaveNoRequest, IsAnswerToRequest, IsAnswer, ToNothing, ToRequest}
use Rattle.koat_cli.proofs.LawfulPlans.{plans_sorted}

-- the answer of a call is that to the request of its words
pub answer_of : (call : Call) (r : Request) (s : Status) (x : List ℕ) → HasRequest call.words r → IsAnswer call s x
    → IsAnswerToRequest call r s x
answer_of call r s x asked (ToNothing none h) = absurd (none r asked)
answer_of call r s x asked (ToRequest q q_asked h) =
    subst (λ (p : Request). IsAnswerToRequest call p s x) (read_in_one_way.one_request call.words q r q_asked asked) h

-- the sort of the status of an answer to a request
pub sort_answered : (call : Call) (r : Request) (s : Status) (x : List ℕ) → IsAnswerToRequest call r s x
    → (sort_of s ≡ Answer) ⊎ ((sort_of s ≡ Refusal) ⊎ (s ≡ ReadFault))
sort_answered call r s x h = sort_in call.shelf call.fetches_before (plan_of r) s x (plans_sorted r) h

-- a status of another sort isn't one of these, if it isn't a fault of reading
pub other_sort_is_no_answer : (s : Status) → sort_of s ≡ Other → s ≢ ReadFault
    → ¬ ((sort_of s ≡ Answer) ⊎ ((sort_of s ≡ Refusal) ⊎ (s ≡ ReadFault)))
other_sort_is_no_answer s other differs (inl answer) = let e : Answer ≡ Other = sym answer ∙ other in cc
other_sort_is_no_answer s other differs (inr (inl refusal)) = let e : Refusal ≡ Other = sym refusal ∙ other in cc
other_sort_is_no_answer s other differs (inr (inr fault)) = differs fault

-- the answer to a request isn't the usage text
usage_differs : Usage ≢ ReadFault
usage_differs e = cc

pub never_usage_of : (call : Call) (r : Request) (x : List ℕ) → ¬ (IsAnswerToRequest call r Usage x)
never_usage_of call r x h = other_sort_is_no_answer Usage refl usage_differs (sort_answered call r Usage x h)

-- if the answer of a call has the status of the usage text, there is no request, and the text is the usage text
pub usage_for_nothing : (call : Call) (x : List ℕ) → IsAnswer call Usage x → HaveNoRequest call.words
usage_for_nothing call x reply r asked = never_usage_of call r x (answer_of call r Usage x asked reply)

pub usage_status_has_usage_text : (call : Call) (x : List ℕ) → IsAnswer call Usage x → x ≡ usage_text
usage_status_has_usage_text call x (ToNothing none h) = h.result_is
usage_status_has_usage_text call x (ToRequest r asked h) = absurd (never_usage_of call r x h)

-- with the status of a request's answer there is a request
pub request_unless_usage : (call : Call) (s : Status) (x : List ℕ) → s ≢ Usage → IsAnswer call s x
    → (r : Request) × (HasRequest call.words r × IsAnswerToRequest call r s x)
request_unless_usage call s x other (ToNothing none h) = absurd (other h.ends)
request_unless_usage call s x other (ToRequest r asked h) = (r, (asked, h))

-- a call answers with no other status of the last sort
never_other : (call : Call) (s : Status) (x : List ℕ) → sort_of s ≡ Other → s ≢ ReadFault → s ≢ Usage → ¬ (IsAnswer call s x)
never_other call s x other no_fault no_usage reply =
    let h = request_unless_usage call s x no_usage reply in other_sort_is_no_answer s other no_fault (sort_answered call h.0 s x h.1.1)

pub never_write_fault : (call : Call) (x : List ℕ) → ¬ (IsAnswer call WriteFault x)
never_write_fault call x =
    never_other call WriteFault x refl (λ e. let never : ⊥ = cc in never) (λ e. let never : ⊥ = cc in never)

pub never_memory : (call : Call) (x : List ℕ) → ¬ (IsAnswer call Memory x)
never_memory call x =
    never_other call Memory x refl (λ e. let never : ⊥ = cc in never) (λ e. let never : ⊥ = cc in never)

-- a status of another sort than the last is none of `WriteFault`, `Memory` and `Usage`
other_sort_is_not_last : (s : Status) → sort_of s ≢ Other → (s ≢ WriteFault) × ((s ≢ Memory) × (s ≢ Usage))
other_sort_is_not_last s other = (λ e. other (ap sort_of e), (λ e. other (ap sort_of e), λ e. other (ap sort_of e)))

-- the same for the status of an answer, and for that of a refusal
pub answer_is_written_whole : (s : Status) → sort_of s ≡ Answer → (s ≢ WriteFault) × ((s ≢ Memory) × (s ≢ Usage))
answer_is_written_whole s is = other_sort_is_not_last s (λ e. let same : Answer ≡ Other = sym is ∙ e in let never : ⊥ = cc in never)

pub refusal_is_written_whole : (s : Status) → sort_of s ≡ Refusal → (s ≢ WriteFault) × ((s ≢ Memory) × (s ≢ Usage))
refusal_is_written_whole s is = other_sort_is_not_last s (λ e. let same : Refusal ≡ Other = sym is ∙ e in let never : ⊥ = cc in never)
