-- The contents of a shelf determine how a call ends, and its answer.
use Rattle.std.proofs.Common.{◌≡◌, ◌≤◌, ◌<◌, ◌↔◌, ℕ, List, length, Option, Some, None, refl, sym, ◌∙◌, ap, subst, arith}
use Rattle.std.specs.FinMap.{get}
use Rattle.outside_io.specs.Files.{Files}
use Rattle.call_plans.specs.declared.status.Status.{Status}
use Rattle.call_plans.specs.declared.status.Status.TheVariants.{ReadFault}
use Rattle.call_plans.specs.Calls.{ShelfUse}
use Rattle.call_plans.specs.Kinds.{TextKind}
use Rattle.call_plans.specs.OnFiles.{read_fault_text}
use Rattle.call_plans.specs.Plans.{Plan, Answers, Reads, HasCase, IsLast, IsAnswerByPlan}
use Rattle.call_plans.specs.Endings.{FileIs, Lacking, TooLong, Nothing, Represented, EndsOn, FailsOnlyIfLacking}
use Rattle.call_plans.specs.Lawful.{IsDecided, IsLawful}
use Rattle.call_plans.proofs.Rows.{row_has_case, case_status_unique, row_unique}
use Rattle.call_plans.proofs.MemoryPlans.{IsAnswerOnFiles, answer_on_files_of, has_answer_on_files}

-- a file that exists isn't lacking, and has one content
not_there : (there : Option (List ℕ)) (bytes : List ℕ) → there ≡ None → there ≡ Some bytes → ⊥
not_there there bytes none some = let e : ◌≡◌ {A = Option (List ℕ)} None (Some bytes) = sym none ∙ some in cc

there_unique : (there : Option (List ℕ)) (a b : List ℕ) → there ≡ Some a → there ≡ Some b → a ≡ b
there_unique there a b left right = let e : Some a ≡ Some b = sym left ∙ right in cc

-- two cases of one file (lacking, too long, refused, or with a meaning) are the same
module _ {T : Type 0} (kind : TextKind T) (decided : IsDecided kind) (there : Option (List ℕ)) (Goal : Type 0)
    (MissingA MissingB LongA LongB : Type 0) (BadA BadB : List ℕ → Type 0) (NextA NextB : T → Type 0) where
  too_long : (a b : List ℕ) → there ≡ Some a → there ≡ Some b → kind.limit < length a → length b ≤ kind.limit → ⊥
  too_long a b left right long short =
      let same : length a ≡ length b = ap length (there_unique there a b left right) in omega (arith, same, long, short)

  pub file_unique : (MissingA → MissingB → Goal) → (LongA → LongB → Goal)
      → ((bytes : List ℕ) → BadA bytes → BadB bytes → Goal)
      → ((bytes : List ℕ) (t : T) → kind.StandsFor bytes t → NextA t → NextB t → Goal)
      → FileIs kind there MissingA LongA BadA NextA → FileIs kind there MissingB LongB BadB NextB → Goal
  file_unique m l b n (Lacking e h) (Lacking f k) = m h k
  file_unique m l b n (Lacking e h) (TooLong c f more k) = absurd (not_there there c e f)
  file_unique m l b n (Lacking e h) (Nothing c f within none k) = absurd (not_there there c e f)
  file_unique m l b n (Lacking e h) (Represented c f within t stands k) = absurd (not_there there c e f)
  file_unique m l b n (TooLong a e more h) (Lacking f k) = absurd (not_there there a f e)
  file_unique m l b n (TooLong a e more h) (TooLong c f others k) = l h k
  file_unique m l b n (TooLong a e more h) (Nothing c f within none k) = absurd (too_long a c e f more within)
  file_unique m l b n (TooLong a e more h) (Represented c f within t stands k) = absurd (too_long a c e f more within)
  file_unique m l b n (Nothing a e short nothing h) (Lacking f k) = absurd (not_there there a f e)
  file_unique m l b n (Nothing a e short nothing h) (TooLong c f more k) = absurd (too_long c a f e more short)
  file_unique m l b n (Nothing a e short nothing h) (Nothing c f within none k) =
      b a h (subst BadB (there_unique there c a f e) k)
  file_unique m l b n (Nothing a e short nothing h) (Represented c f within t stands k) =
      absurd (nothing t (subst (λ (bytes : List ℕ). kind.StandsFor bytes t) (there_unique there c a f e) stands))
  file_unique m l b n (Represented a e short t stands h) (Lacking f k) = absurd (not_there there a f e)
  file_unique m l b n (Represented a e short t stands h) (TooLong c f more k) = absurd (too_long c a f e more short)
  file_unique m l b n (Represented a e short t stands h) (Nothing c f within none k) =
      absurd (none t (subst (λ (bytes : List ℕ). kind.StandsFor bytes t) (there_unique there a c e f) stands))
  file_unique m l b n (Represented a e short t stands h) (Represented c f within u others k) =
      let same : u ≡ t = decided.one a u t
      (subst (λ (bytes : List ℕ). kind.StandsFor bytes u) (there_unique there c a f e) others) stands in
      n a t stands h (subst NextB same k)

-- on given files a plan answers with at most one status and one text
pub one_answer_on_files : (files : Files) (plan : Plan) (s t : Status) (x y : List ℕ) → IsLawful plan
    → IsAnswerOnFiles files plan s x
    → IsAnswerOnFiles files plan t y → (s ≡ t) × (x ≡ y)
one_answer_on_files files (Answers cases) s t x y lawful a b = row_unique cases s t x y lawful a b
one_answer_on_files files (Reads {T} kind file next) s t x y lawful a b =
    file_unique kind lawful.0 (get files file) ((s ≡ t) × (x ≡ y)) ((s ≡ ReadFault) × (x ≡ read_fault_text))
    ((t ≡ ReadFault) × (y ≡ read_fault_text)) ((s ≡ kind.refused) × (x ≡ kind.too_long))
    ((t ≡ kind.refused) × (y ≡ kind.too_long)) (λ bytes. (s ≡ kind.refused) × kind.IsRefusedAs bytes x)
    (λ bytes. (t ≡ kind.refused) × kind.IsRefusedAs bytes y) (λ u. IsAnswerOnFiles files (next u) s x)
    (λ u. IsAnswerOnFiles files (next u) t y) (λ h k. (h.0 ∙ sym k.0, h.1 ∙ sym k.1))
    (λ h k. (h.0 ∙ sym k.0, h.1 ∙ sym k.1))
    (λ bytes h k. (h.0 ∙ sym k.0, lawful.0.one_refusal bytes x y h.1 k.1))
    (λ bytes u stands h k. one_answer_on_files files (next u) s t x y (lawful.1 bytes u stands) h k) a b

-- on given files a call ends with at most one status
pub ends_unique : (files : Files) (plan : Plan) (s t : Status) → IsLawful plan → EndsOn files plan s
    → EndsOn files plan t → s ≡ t
ends_unique files (Answers cases) s t lawful a b = case_status_unique cases s t lawful a b
ends_unique files (Reads {T} kind file next) s t lawful a b =
    file_unique kind lawful.0 (get files file) (s ≡ t) (s ≡ ReadFault) (t ≡ ReadFault) (s ≡ kind.refused)
    (t ≡ kind.refused) (λ bytes. s ≡ kind.refused) (λ bytes. t ≡ kind.refused) (λ u. EndsOn files (next u) s)
    (λ u. EndsOn files (next u) t) (λ h k. h ∙ sym k) (λ h k. h ∙ sym k) (λ bytes h k. h ∙ sym k)
    (λ bytes u stands h k. ends_unique files (next u) s t (lawful.1 bytes u stands) h k) a b

module _ (seen : ShelfUse) (files : Files) (count : Option ℕ) (plan : Plan) (held : seen.files_if_disclosed ≡ Some files)
    (lawful : IsLawful plan) where
  -- the status of an answer is the only one with which a call with this plan ends on these files
  pub exactly_where : (s : Status) (x : List ℕ) → FailsOnlyIfLacking seen s → IsAnswerByPlan seen count plan s x
      → (t : Status)
      → (s ≡ t) ↔ EndsOn files plan t
  exactly_where s x fails_if_lacking on t =
      let ends = has_answer_on_files files plan s x lawful
      (answer_on_files_of seen files count plan s x held fails_if_lacking lawful on) in
      (λ e. subst (λ (r : Status). EndsOn files plan r) e ends, λ other. ends_unique files plan s t lawful ends other)

  -- the status and the text of an answer are unique
  pub answer_unique : (s t : Status) (x y : List ℕ) → FailsOnlyIfLacking seen s → FailsOnlyIfLacking seen t
      → IsAnswerByPlan seen count plan s x
      → IsAnswerByPlan seen count plan t y → (s ≡ t) × (x ≡ y)
  answer_unique s t x y fails_if_lacking also a b =
      one_answer_on_files files plan s t x y lawful (answer_on_files_of seen files count plan s x held fails_if_lacking
      lawful a)
      (answer_on_files_of seen files count plan t y held also lawful b)

-- if no file is read, the status and the text of an answer are unique, whatever the shelf discloses
pub last_unique : (seen : ShelfUse) (count : Option ℕ) (plan : Plan) (s t : Status) (x y : List ℕ) → IsLast plan
    → IsLawful plan → IsAnswerByPlan seen count plan s x → IsAnswerByPlan seen count plan t y → (s ≡ t) × (x ≡ y)
last_unique seen count (Answers cases) s t x y last lawful a b = row_unique cases s t x y lawful a.1 b.1
last_unique seen count (Reads kind file next) s t x y last lawful a b = absurd last

-- if no file is read, a call ends with a status exactly if it is that of the answer
pub last_exactly : (seen : ShelfUse) (files : Files) (count : Option ℕ) (plan : Plan) (s : Status) (x : List ℕ)
    → IsLast plan
    → IsLawful plan → IsAnswerByPlan seen count plan s x → (t : Status) → (s ≡ t) ↔ EndsOn files plan t
last_exactly seen files count (Answers cases) s x last lawful on t =
    let comes = row_has_case cases s x lawful on.1 in
    (λ e. subst (λ (r : Status). HasCase cases r) e comes, λ other. case_status_unique cases s t lawful comes other)
last_exactly seen files count (Reads kind file next) s x last lawful on t = absurd last
