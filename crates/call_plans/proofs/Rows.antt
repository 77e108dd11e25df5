-- A table of rows has one answer.
use Rattle.std.proofs.Common.{◌≡◌, ℕ, List, refl, sym, ◌∙◌, subst, inl, inr}
use Rattle.std.specs.Prelude.{⊤}
use Rattle.call_plans.specs.declared.status.Status.{Status}
use Rattle.call_plans.specs.Sorts.{Answer, sort_of}
use Rattle.call_plans.specs.Plans.{Cases, End, Case, HasRow, HasCase}
use Rattle.call_plans.specs.Lawful.{IsRow, AreRows, HaveAnswers}

-- a case excludes that of each row of a table
abbrev pub Excludes : Type 0 → Cases → Type 0
Excludes When End = ⊤
Excludes When (Case t Other Text more) = (When → ¬ Other) × Excludes When more

no_case_holds : (When : Type 0) (cases : Cases) (s : Status) → Excludes When cases → When → ¬ (HasCase cases s)
no_case_holds When End s apart holds comes = comes
no_case_holds When (Case t Other Text more) s apart holds (inl comes) = apart.0 holds comes.1
no_case_holds When (Case t Other Text more) s apart holds (inr comes) = no_case_holds When more s apart.1 holds comes

-- a row has the properties of a row if it has one text, which comes with its case, and its case excludes those of later
-- rows
pub row_of : {When : Type 0} {Text : List ℕ → Type 0} {more : Cases} → ((x y : List ℕ) → Text x → Text y → x ≡ y)
    → ((x : List ℕ) → Text x → When) → Excludes When more → IsRow When Text more
row_of {When} {Text} {more} one comes apart =
    record { one = one; comes = comes; alone = λ s. no_case_holds When more s apart }

-- if a table answers with a status and a text, the status comes
pub row_has_case : (cases : Cases) (s : Status) (x : List ℕ) → AreRows cases → HasRow cases s x → HasCase cases s
row_has_case End s x rows told = told
row_has_case (Case t When Text more) s x rows (inl told) = inl (told.0, rows.0.comes x told.1)
row_has_case (Case t When Text more) s x rows (inr told) = inr (row_has_case more s x rows.1 told)

-- at most one status comes
pub case_status_unique : (cases : Cases) (s t : Status) → AreRows cases → HasCase cases s → HasCase cases t → s ≡ t
case_status_unique End s t rows a b = absurd a
case_status_unique (Case r When Text more) s t rows (inl a) (inl b) = a.0 ∙ sym b.0
case_status_unique (Case r When Text more) s t rows (inl a) (inr b) = absurd (rows.0.alone t a.1 b)
case_status_unique (Case r When Text more) s t rows (inr a) (inl b) = absurd (rows.0.alone s b.1 a)
case_status_unique (Case r When Text more) s t rows (inr a) (inr b) = case_status_unique more s t rows.1 a b

-- a table answers with at most one status and one text
pub row_unique : (cases : Cases) (s t : Status) (x y : List ℕ) → AreRows cases → HasRow cases s x → HasRow cases t y
    → (s ≡ t) × (x ≡ y)
row_unique End s t x y rows a b = absurd a
row_unique (Case r When Text more) s t x y rows (inl a) (inl b) = (a.0 ∙ sym b.0, rows.0.one x y a.1 b.1)
row_unique (Case r When Text more) s t x y rows (inl a) (inr b) =
    absurd (rows.0.alone t (rows.0.comes x a.1) (row_has_case more t y rows.1 b))
row_unique (Case r When Text more) s t x y rows (inr a) (inl b) =
    absurd (rows.0.alone s (rows.0.comes y b.1) (row_has_case more s x rows.1 a))
row_unique (Case r When Text more) s t x y rows (inr a) (inr b) = row_unique more s t x y rows.1 a b

-- the status with which a table answers is that of an answer
pub row_is_answer : (cases : Cases) (s : Status) (x : List ℕ) → HaveAnswers cases → HasRow cases s x
    → sort_of s ≡ Answer
row_is_answer End s x sorts told = absurd told
row_is_answer (Case t When Text more) s x sorts (inl told) =
    subst (λ (r : Status). sort_of r ≡ Answer) (sym told.0) sorts.0
row_is_answer (Case t When Text more) s x sorts (inr told) = row_is_answer more s x sorts.1 told
