-- The contents of the shelf determine how a call ends, and a call has one answer.
use Rattle.std.proofs.Common.{◌≡◌, ◌↔◌, ℕ, List, Option, Some, None, IsSome, refl, sym, ◌∙◌, subst}
use Rattle.outside_io.specs.Files.{Files}
use Rattle.command_line.specs.Requests.{Request, HasRequest}
use Rattle.call_plans.specs.declared.status.Status.{Status}
use Rattle.call_plans.specs.declared.status.Status.TheVariants.{Usage}
use Rattle.call_plans.specs.Calls.{SinkUse}
use Rattle.call_plans.specs.Plans.{IsLast}
use Rattle.call_plans.specs.Endings.{EndsOn, FailsOnlyIfLacking}
use Rattle.call_plans.proofs.Faults.{fails_if_lacking_without_rise, fails_if_lacking_other_status}
use Rattle.call_plans.proofs.OneEnding.{exactly_where, answer_unique, last_unique, last_exactly}
use Rattle.koat_cli.specs.Calls.{Call}
use Rattle.koat_cli.specs.RequestPlans.{plan_of}
use Rattle.koat_cli.specs.Answers.{HaveNoRequest, IsAnswerToRequest, IsAnswer, ToNothing, ToRequest}
use Rattle.koat_cli.specs.OneAnswer.{IsDetermined, AreDetermined}
use Rattle.koat_cli.specs.Ends.{WroteWhole}
use Rattle.koat_cli.specs.Exclusion.{AreOneAnswer, AnswersExcludeEachOther}
use Rattle.koat_cli.specs.CallsAnswered.{IsOnShelf, EndsWell, CallsAreAnswered}
use Rattle.koat_cli.proofs.Determined.{Determined}
use Rattle.koat_cli.proofs.LawfulPlans.{plans_lawful, last_determined}
use Rattle.koat_cli.proofs.OneRequest.{answer_of, usage_for_nothing}

-- a call that ends well wrote its text
wrote : (call : Call) (put : SinkUse) (s : Status) → EndsWell s call put → WroteWhole s call put
wrote call put s h = h.ends.wrote h.no_write_fault h.memory

-- if the words have no request, the answer is the usage text
nothing_gets_usage : (call : Call) (s : Status) (x : List ℕ) → HaveNoRequest call.words → IsAnswer call s x → s ≡ Usage
nothing_gets_usage call s x none (ToNothing nothing h) = h.ends
nothing_gets_usage call s x none (ToRequest r asked h) = absurd (none r asked)

usage : (call : Call) (put : SinkUse) (s : Status) → EndsWell s call put → (s ≡ Usage) ↔ HaveNoRequest call.words
usage call put s h =
    let w = wrote call put s h in (
      (λ e. usage_for_nothing call w.text (subst (λ (t : Status). IsAnswer call t w.text) e w.says)),
      (λ none. nothing_gets_usage call s w.text none w.says),
    )

module _ (laws : Determined) where
  -- the status follows from the contents of the shelf
  on_shelf : (call : Call) (put : SinkUse) (files : Files) (r : Request) (s t : Status) → HasRequest call.words r
      → IsDetermined r → IsOnShelf s call files → EndsWell s call put → (s ≡ t) ↔ EndsOn files (plan_of r) t
  on_shelf call put files r s t asked one on h =
      let w = wrote call put s h in
      let fails_if_lacking : FailsOnlyIfLacking call.shelf s = λ e. fails_if_lacking_without_rise call.shelf (on.no_read_fault e) s e in
      exactly_where call.shelf files call.fetches_before (plan_of r) on.held (plans_lawful laws r one) s w.text fails_if_lacking
      (answer_of call r s w.text asked w.says) t

  -- if no file is read, the status follows from the table alone
  without_file : (call : Call) (put : SinkUse) (files : Files) (r : Request) (s t : Status) → HasRequest call.words r
      → IsLast (plan_of r) → EndsWell s call put → (s ≡ t) ↔ EndsOn files (plan_of r) t
  without_file call put files r s t asked last h =
      let w = wrote call put s h in
      last_exactly call.shelf files call.fetches_before (plan_of r) s w.text last (plans_lawful laws r (last_determined r last))
      (answer_of call r s w.text asked w.says) t

  -- calls end as the law says
  pub calls_answered : CallsAreAnswered
  calls_answered = record { on_shelf = on_shelf; without_file = without_file; usage = usage }

-- two answers of a call are the same if two answers of its request are
says_unique : (call : Call) (s t : Status) (x y : List ℕ)
    → ((r : Request) → HasRequest call.words r → IsAnswerToRequest call r s x → IsAnswerToRequest call r t y → (s ≡ t) × (x ≡ y))
    → IsAnswer call s x → IsAnswer call t y → AreOneAnswer s t x y
says_unique call s t x y one (ToNothing none h) (ToNothing nothing k) =
    record { status = h.ends ∙ sym k.ends; text = h.result_is ∙ sym k.result_is }
says_unique call s t x y one (ToNothing none h) (ToRequest r asked k) = absurd (none r asked)
says_unique call s t x y one (ToRequest r asked h) reply =
    let both = one r asked h (answer_of call r t y asked reply) in record { status = both.0; text = both.1 }

module _ (laws : Determined) (call : Call) (s t : Status) (x y : List ℕ) where
  -- if a shelf discloses its contents, a call has one answer, except for faults that came with a rise of its count
  held_one : (held : Option Files) → call.shelf.files_if_disclosed ≡ held → IsSome held → AreDetermined call.words → FailsOnlyIfLacking call.shelf s
      → FailsOnlyIfLacking call.shelf t → IsAnswer call s x → IsAnswer call t y → AreOneAnswer s t x y
  held_one None e some one fails_if_lacking also = absurd (let never : ⊥ = cc in never)
  held_one (Some files) e some one fails_if_lacking also =
      says_unique call s t x y (λ r asked.
      answer_unique call.shelf files call.fetches_before (plan_of r) e (plans_lawful laws r (one r asked)) s t x y fails_if_lacking also)

  one_row : IsSome call.shelf.files_if_disclosed → AreDetermined call.words → FailsOnlyIfLacking call.shelf s → FailsOnlyIfLacking call.shelf t → IsAnswer call s x → IsAnswer call t y
      → AreOneAnswer s t x y
  one_row some = held_one call.shelf.files_if_disclosed refl some

-- answers exclude each other as the law says
pub answers_exclude : Determined → AnswersExcludeEachOther
answers_exclude laws = record {
  other_words = λ call t x y a b. nothing_gets_usage call t y (usage_for_nothing call x a) b;
  without_file = λ call s t x y nothing.
      says_unique call s t x y (λ r asked.
      last_unique call.shelf call.fetches_before (plan_of r) s t x y (nothing r asked) (plans_lawful laws r (last_determined r (nothing r asked))));
  without_faults = λ call s t x y one some steady.
      one_row laws call s t x y some one (fails_if_lacking_without_rise call.shelf steady s) (fails_if_lacking_without_rise call.shelf steady t);
  read_faults_aside = λ call s t x y one some other also.
      one_row laws call s t x y some one (fails_if_lacking_other_status call.shelf s other) (fails_if_lacking_other_status call.shelf t also);
}
