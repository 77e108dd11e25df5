-- The answers of the rest of a plan, after a file.
use Rattle.std.proofs.Common.{◌≡◌, ◌≤◌, ◌<◌, ℕ, List, length, Option, Result, IfOk, refl, sym, ◌∙◌, ap, subst, arith}
use Rattle.std.specs.Prelude.{⊤}
use Rattle.std.proofs.lemmas.Result.{IfOk-weaker}
use Rattle.outside_io.specs.Counts.{one_more}
use Rattle.outside_io.specs.Files.{Files, HasBytesIfDisclosed}
use Rattle.outside_io.specs.declared.shelf.Shelf as shelf
use Rattle.call_plans.specs.declared.status.Status.{Status}
use Rattle.call_plans.specs.declared.status_text.StatusText.{StatusText}
use Rattle.call_plans.specs.Calls.{ShelfUse, shelf_use_of}
use Rattle.call_plans.specs.Kinds.{TextKind}
use Rattle.call_plans.specs.Gives.{Gives}
use Rattle.call_plans.specs.OnFiles.{IsNoText, WithoutText, WithMeaning}
use Rattle.call_plans.specs.Plans.{Cases, Plan, Answers, Reads, HasRow, IsLast, IsAnswerByPlan}

-- what was seen of a shelf is the same if it had the same contents and the same count of faults before
seen_same : (held other : Option Files) (before middle after taken : ℕ) (fetches : Option ℕ) → held ≡ other
    → before ≡ middle
    → ◌≡◌ {A = ShelfUse} (record {
      files_if_disclosed = held;
      faults_before = before;
      faults_after = after;
      fetches_after = fetches;
      taken = taken;
    })
    (record { files_if_disclosed = other; faults_before = middle; faults_after = after; fetches_after = fetches; taken = taken })
seen_same held other before middle after taken fetches h e = cc

module _ {F T : Type 0} (means : shelf.Ghosts F) (before middle after : F) (kind : TextKind T) (file : List ℕ)
    (next : T → Plan) (t : T) where
  -- an answer of the rest of a plan, after a file with a meaning, is one of the plan
  answer_after_file : (s : Status) (x : List ℕ) → means.files_if_disclosed middle ≡ means.files_if_disclosed before
      → means.faults before ≡ means.faults middle → means.fetches middle ≡ one_more (means.fetches before)
      → (IsLast (next t) → means.taken after ≡ means.taken middle)
      → Gives kind (shelf_use_of means before middle) file ⊤ t
      → IsAnswerByPlan (shelf_use_of means middle after) (means.fetches middle) (next t) s x
      → IsAnswerByPlan (shelf_use_of means before after) (means.fetches before) (Reads kind file next) s x
  answer_after_file s x held no_rise counted last gives on =
      let same : shelf_use_of means middle after ≡ shelf_use_of means before after =
      seen_same (means.files_if_disclosed middle) (means.files_if_disclosed before) (means.faults middle) (means.faults before)
      (means.faults after) (means.taken after) (means.fetches after) held (sym no_rise) in
      let given : Gives kind (shelf_use_of means before after) file (IsLast (next t)) t = record {
        bytes = gives.bytes;
        held = gives.held;
        taken = λ is. last is ∙ gives.taken tt;
        within = gives.within;
        stands = gives.stands;
      } in
      WithMeaning t given (subst (λ (count : Option ℕ). IsAnswerByPlan (shelf_use_of means before after) count (next t)
      s x) counted
      (subst (λ (seen : ShelfUse). IsAnswerByPlan seen (means.fetches middle) (next t) s x) same on))

  -- a plan answers as its rest does after a file with a meaning, if memory suffices
  pub after_file_ok : {E : Type 0} (reply : Result StatusText E) → means.files_if_disclosed middle ≡ means.files_if_disclosed before
      → means.faults before ≤ means.faults middle → ¬ (means.faults before < means.faults middle)
      → means.fetches middle ≡ one_more (means.fetches before)
      → (IsLast (next t) → means.taken after ≡ means.taken middle)
      → Gives kind (shelf_use_of means before middle) file ⊤ t
      → IfOk reply (λ a. IsAnswerByPlan (shelf_use_of means middle after) (means.fetches middle) (next t) a.status
      a.text.items)
      → IfOk reply (λ a. IsAnswerByPlan (shelf_use_of means before after) (means.fetches before) (Reads kind file next)
      a.status
      a.text.items)
  after_file_ok reply held most few counted last gives on =
      let no_rise : means.faults before ≡ means.faults middle = grind (arith, most, few) in
      IfOk-weaker reply
      (λ (a : StatusText). IsAnswerByPlan (shelf_use_of means middle after) (means.fetches middle) (next t) a.status
      a.text.items)
      (λ (a : StatusText). IsAnswerByPlan (shelf_use_of means before after) (means.fetches before)
      (Reads kind file next) a.status
      a.text.items)
      (λ a. answer_after_file a.status a.text.items held no_rise counted last gives) on

-- if nothing is fetched, a plan answers by its table
pub row_of_result : {E : Type 0} (seen : ShelfUse) (count : Option ℕ) (cases : Cases) (reply : Result StatusText E)
    → seen.fetches_after ≡ count → IfOk reply (λ a. HasRow cases a.status a.text.items)
    → IfOk reply (λ a. IsAnswerByPlan seen count (Answers cases) a.status a.text.items)
row_of_result seen count cases reply counted told =
    IfOk-weaker reply (λ (a : StatusText). HasRow cases a.status a.text.items)
    (λ (a : StatusText). IsAnswerByPlan seen count (Answers cases) a.status a.text.items) (λ a h. (counted, h)) told
