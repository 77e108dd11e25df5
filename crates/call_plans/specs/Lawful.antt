-- Plans by which a call has only one answer, with statuses of the right sort: refusals of files, and answers.
use Rattle.std.specs.Prelude.{◌≡◌, ℕ, List, ⊤}
use Rattle.call_plans.specs.declared.status.Status.{Status}
use Rattle.call_plans.specs.Sorts.{Answer, Refusal, sort_of}
use Rattle.call_plans.specs.Kinds.{TextKind}
use Rattle.call_plans.specs.Plans.{Cases, End, Case, Plan, Answers, Reads, HasCase}

-- bytes of the kind have at most one meaning, are refused with at most one text, and not both
pub record IsDecided {T : Type 0} (kind : TextKind T) : Type 0 where
  pub one : (bytes : List ℕ) (a b : T) → kind.StandsFor bytes a → kind.StandsFor bytes b → a ≡ b
  pub one_refusal : (bytes x y : List ℕ) → kind.IsRefusedAs bytes x → kind.IsRefusedAs bytes y → x ≡ y
  pub apart : (bytes : List ℕ) (a : T) (x : List ℕ) → kind.StandsFor bytes a → ¬ (kind.IsRefusedAs bytes x)

-- a row has at most one text, it has one only if its case holds, and if its case holds no later row's case does
pub record IsRow (When : Type 0) (Text : List ℕ → Type 0) (more : Cases) : Type 0 where
  pub one : (x y : List ℕ) → Text x → Text y → x ≡ y
  pub comes : (x : List ℕ) → Text x → When
  pub alone : (s : Status) → When → ¬ (HasCase more s)

-- each row of a table has the property `IsRow`
abbrev pub AreRows : Cases → Type 0
AreRows End = ⊤
AreRows (Case t When Text more) = IsRow When Text more × AreRows more

-- the kinds of the files that the plan reads are decided, and each row of its tables has the property `IsRow`
abbrev pub IsLawful : Plan → Type 0
IsLawful (Answers cases) = AreRows cases
IsLawful (Reads {T} kind file next) =
    IsDecided kind × ((bytes : List ℕ) (t : T) → kind.StandsFor bytes t → IsLawful (next t))

-- the status of each row of a table is that of an answer
abbrev pub HaveAnswers : Cases → Type 0
HaveAnswers End = ⊤
HaveAnswers (Case t When Text more) = (sort_of t ≡ Answer) × HaveAnswers more

-- the status of a refused file is that of a refusal, and the statuses of the plan's tables are those of answers
abbrev pub HasSorts : Plan → Type 0
HasSorts (Answers cases) = HaveAnswers cases
HasSorts (Reads {T} kind file next) = (sort_of kind.refused ≡ Refusal) × ((t : T) → HasSorts (next t))
