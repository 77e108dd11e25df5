-- Plans: which files a call reads, one after the other, and by which table it answers.
use Rattle.std.specs.Prelude.{◌≡◌, ◌⊎◌, ℕ, List, Option, ⊤}
use Rattle.outside_io.specs.Counts.{one_more}
use Rattle.call_plans.specs.declared.status.Status.{Status}
use Rattle.call_plans.specs.Calls.{ShelfUse}
use Rattle.call_plans.specs.Kinds.{TextKind}
use Rattle.call_plans.specs.OnFiles.{IsAnswerOnFile}

-- the rows of a table of answers: with which status, exactly when, and with which texts
pub data Cases : Type 1 where
  End : Cases
  Case : Status → Type 0 → (List ℕ → Type 0) → Cases → Cases

-- a plan answers by a table, or reads a file first and goes on by the meaning of its text
pub data Plan : Type 1 where
  Answers : Cases → Plan
  Reads : {T : Type 0} → TextKind T → List ℕ → (T → Plan) → Plan

-- some row of the table has this status and this text
abbrev pub HasRow : Cases → Status → List ℕ → Type 0
HasRow End s x = ⊥
HasRow (Case t When Text more) s x = ((s ≡ t) × Text x) ⊎ HasRow more s x

-- some row of the table has this status, and its case is the one that holds
abbrev pub HasCase : Cases → Status → Type 0
HasCase End s = ⊥
HasCase (Case t When Text more) s = ((s ≡ t) × When) ⊎ HasCase more s

-- no file is read
abbrev pub IsLast : Plan → Type 0
IsLast (Answers cases) = ⊤
IsLast (Reads kind file next) = ⊥

-- the plan answers with this status and this text, from what was seen of a shelf with this count of fetches before:
-- each file that is reached is fetched once, and none after one without a text of its kind
abbrev pub IsAnswerByPlan : ShelfUse → Option ℕ → Plan → Status → List ℕ → Type 0
IsAnswerByPlan seen count (Answers cases) s x = (seen.fetches_after ≡ count) × HasRow cases s x
IsAnswerByPlan seen count (Reads kind file next) s x =
    IsAnswerOnFile kind seen file (one_more count) (λ t. IsLast (next t))
    (λ t. IsAnswerByPlan seen (one_more count) (next t)) s x
