-- The answers of a plan if the shelf discloses its contents, by these contents alone.
use Rattle.std.proofs.Common.{◌≡◌, ◌≤◌, ◌<◌, ℕ, List, length, Option, Some, None, refl, sym, ◌∙◌, subst, inl, inr}
use Rattle.std.specs.Prelude.{IsSomeAnd}
use Rattle.std.specs.FinMap.{get}
use Rattle.outside_io.specs.Files.{Files}
use Rattle.outside_io.specs.Counts.{one_more, Rose}
use Rattle.call_plans.specs.declared.status.Status.{Status}
use Rattle.call_plans.specs.declared.status.Status.TheVariants.{ReadFault}
use Rattle.call_plans.specs.Calls.{ShelfUse}
use Rattle.call_plans.specs.Kinds.{TextKind}
use Rattle.call_plans.specs.OnFiles.{read_fault_text, Unread, OverLimit, Bad, WithoutText, WithMeaning}
use Rattle.call_plans.specs.Plans.{Plan, Answers, Reads, HasRow, IsAnswerByPlan}
use Rattle.call_plans.specs.Meanings.{MayMiss}
use Rattle.call_plans.specs.Endings.{FileIs, Lacking, TooLong, Nothing, Represented, EndsOn, FailsOnlyIfLacking}
use Rattle.call_plans.specs.Lawful.{IsDecided, IsLawful}
use Rattle.call_plans.proofs.GivenFiles.{given, given_more, given_none}
use Rattle.call_plans.proofs.Rows.{row_has_case}

-- the plan answers with this status and this text on these files
abbrev pub IsAnswerOnFiles : Files → Plan → Status → List ℕ → Type 0
IsAnswerOnFiles files (Answers cases) s x = HasRow cases s x
IsAnswerOnFiles files (Reads kind file next) s x =
    FileIs kind (get files file) ((s ≡ ReadFault) × (x ≡ read_fault_text)) ((s ≡ kind.refused) × (x ≡ kind.too_long))
    (λ bytes. (s ≡ kind.refused) × kind.IsRefusedAs bytes x) (λ t. IsAnswerOnFiles files (next t) s x)

module _ {T : Type 0} (kind : TextKind T) (Missing Long : Type 0) (Bad : List ℕ → Type 0) (Next : T → Type 0) where
  -- a file that has too many bytes is too long
  long : (there : Option (List ℕ)) → IsSomeAnd there (λ bytes. kind.limit < length bytes) → Long
      → FileIs kind there Missing Long Bad Next
  long None more h = absurd more
  long (Some bytes) more h = TooLong bytes refl more h

-- an answer from what was seen is one on the files that the shelf discloses
pub answer_on_files_of : (seen : ShelfUse) (files : Files) (count : Option ℕ) (plan : Plan) (s : Status) (x : List ℕ)
    → seen.files_if_disclosed ≡ Some files → FailsOnlyIfLacking seen s → IsLawful plan → IsAnswerByPlan seen count plan s x
    → IsAnswerOnFiles files plan s x
answer_on_files_of seen files count (Answers cases) s x held fails_if_lacking lawful on = on.1
answer_on_files_of seen files count (Reads kind file next) s x held fails_if_lacking lawful
    (WithoutText counted (Unread h)) =
    Lacking (given_none seen.files_if_disclosed files file held (fails_if_lacking h.ends file h.fault)) (h.ends, h.result_is)
answer_on_files_of seen files count (Reads kind file next) s x held fails_if_lacking lawful
    (WithoutText counted (OverLimit h)) =
    long kind ((s ≡ ReadFault) × (x ≡ read_fault_text)) ((s ≡ kind.refused) × (x ≡ kind.too_long))
    (λ bytes. (s ≡ kind.refused) × kind.IsRefusedAs bytes x) (λ t. IsAnswerOnFiles files (next t) s x) (get files file)
    (given_more seen.files_if_disclosed files file kind.limit seen.taken held h.over) (h.ends, h.result_is)
answer_on_files_of seen files count (Reads kind file next) s x held fails_if_lacking lawful
    (WithoutText counted (Bad h)) =
    Nothing h.bytes (given seen.files_if_disclosed files file h.bytes held h.fetched.held) h.fetched.within
    (λ t stands. lawful.0.apart h.bytes t x stands h.refused) (h.ends, h.refused)
answer_on_files_of seen files count (Reads kind file next) s x held fails_if_lacking lawful (WithMeaning t gives on) =
    Represented gives.bytes (given seen.files_if_disclosed files file gives.bytes held gives.held) gives.within t gives.stands
    (answer_on_files_of seen files (one_more count) (next t) s x held fails_if_lacking
    (lawful.1 gives.bytes t gives.stands) on)

-- a call with this answer ends with its status
pub has_answer_on_files : (files : Files) (plan : Plan) (s : Status) (x : List ℕ) → IsLawful plan
    → IsAnswerOnFiles files plan s x
    → EndsOn files plan s
has_answer_on_files files (Answers cases) s x lawful held = row_has_case cases s x lawful held
has_answer_on_files files (Reads kind file next) s x lawful (Lacking there h) = Lacking there h.0
has_answer_on_files files (Reads kind file next) s x lawful (TooLong bytes there more h) = TooLong bytes there more h.0
has_answer_on_files files (Reads kind file next) s x lawful (Nothing bytes there within none h) =
    Nothing bytes there within none h.0
has_answer_on_files files (Reads kind file next) s x lawful (Represented bytes there within t stands h) =
    Represented bytes there within t stands (has_answer_on_files files (next t) s x (lawful.1 bytes t stands) h)

-- a file of a plan that may fail is lacking if no count of faults rises; and then the call ends with a fault of reading
pub missed_ends : (seen : ShelfUse) (files : Files) (plan : Plan) → seen.files_if_disclosed ≡ Some files
    → ¬ (Rose seen.faults_before seen.faults_after) → MayMiss seen plan → EndsOn files plan ReadFault
missed_ends seen files (Answers cases) held no_rise missed = absurd missed
missed_ends seen files (Reads kind file next) held no_rise (inl (inl rose)) = absurd (no_rise rose)
missed_ends seen files (Reads kind file next) held no_rise (inl (inr lacks)) =
    Lacking (given_none seen.files_if_disclosed files file held lacks) refl
missed_ends seen files (Reads kind file next) held no_rise (inr (t, (gives, missed))) =
    Represented gives.bytes (given seen.files_if_disclosed files file gives.bytes held gives.held) gives.within t gives.stands
    (missed_ends seen files (next t) held no_rise missed)
