-- Worked values of plans that read two files, of the toy kind `counts`.
use Rattle.std.specs.Prelude.{◌≡◌, ◌≢◌, ◌+◌, ℕ, List, [], ◌++◌, Option, Some, codes}
use Rattle.std.specs.FinMap.{empty, insert}
use Rattle.outside_io.specs.Files.{Files}
use Rattle.call_plans.specs.declared.status.Status.{Status}
use Rattle.call_plans.specs.declared.status.Status.TheVariants.{Done, Unknown, ReadFault, ProgramRefused}
use Rattle.call_plans.specs.Calls.{ShelfUse}
use Rattle.call_plans.specs.OnFiles.{read_fault_text}
use Rattle.call_plans.specs.Plans.{Plan, Answers, Reads, End, Case, IsAnswerByPlan}
use Rattle.call_plans.specs.Meanings.{Wrote, WroteRefusal, MayMiss}
use Rattle.call_plans.specs.Endings.{EndsOn}
use Rattle.call_plans.specs.Worked.{counts, with_bytes, with_another, wrote}

-- `Done` with the text `same` if the files `f` and `g` mean the same number, and `Unknown` with the text `other` if
-- they mean different ones
abbrev pub pair : Plan
pair = Reads counts (codes "f") (λ m. Reads counts (codes "g")
    (λ n. Answers (Case Done (m ≡ n) (λ text. (m ≡ n) × (text ≡ codes "same"))
    (Case Unknown (m ≢ n) (λ text. (m ≢ n) × (text ≡ codes "other")) End))))

-- the contents with these bytes in the files `f` and `g`
abbrev pub with_both : List ℕ → List ℕ → Files
with_both f g = insert (insert empty (codes "g") g) (codes "f") f

-- a shelf without faults that discloses these contents; a call fetched this many files from it, and read this many
-- bytes of the last one
abbrev pub shelf_after : Files → ℕ → ℕ → ShelfUse
shelf_after files fetches taken = record {
  files_if_disclosed = Some files;
  faults_before = 2;
  faults_after = 2;
  fetches_after = Some (3 + fetches);
  taken = taken;
}

-- the plan has this answer on a shelf with these contents, from which this many files were fetched
abbrev pub HasAnswer : Files → ℕ → ℕ → Status → List ℕ → Type 0
HasAnswer files fetches taken status text = IsAnswerByPlan (shelf_after files fetches taken) (Some 3) pair status text

-- if the first file is lacking or refused, the second one isn't fetched, and the answer doesn't depend on it; after a
-- first one that means a number the second one is fetched, once, and is lacking, too long, bad, or compared
pub record PairsAreWorkedOut : Type 0 where
  pub first_lacking : HasAnswer with_another 1 0 ReadFault read_fault_text
  pub first_bad : HasAnswer (with_both (codes "m") (codes "n")) 1 1 ProgramRefused (codes "bad")
  pub first_bad_second_lacking : HasAnswer (with_bytes (codes "m")) 1 1 ProgramRefused (codes "bad")
  pub second_lacking : HasAnswer (with_bytes (codes "no")) 2 0 ReadFault read_fault_text
  pub second_long : HasAnswer (with_both (codes "no") (codes "nnnn")) 2 0 ProgramRefused (codes "long")
  pub second_bad : HasAnswer (with_both (codes "no") (codes "m")) 2 1 ProgramRefused (codes "bad")
  pub same : HasAnswer (with_both (codes "no") (codes "nn")) 2 2 Done (codes "same")
  pub other : HasAnswer (with_both (codes "no") (codes "n")) 2 1 Unknown (codes "other")
  pub only_bad : (fetches taken : ℕ) (status : Status) (text : List ℕ)
      → HasAnswer (with_bytes (codes "m")) fetches taken status text
      → (fetches ≡ 1) × ((status ≡ ProgramRefused) × (text ≡ codes "bad"))
  pub only_second : (fetches taken : ℕ) (status : Status) (text : List ℕ)
      → HasAnswer (with_bytes (codes "no")) fetches taken status text → (fetches ≡ 2) × (status ≡ ReadFault)
  pub only_same : (fetches taken : ℕ) (status : Status) (text : List ℕ)
      → HasAnswer (with_both (codes "no") (codes "nn")) fetches taken status text
      → (fetches ≡ 2) × ((taken ≡ 2) × ((status ≡ Done) × (text ≡ codes "same")))
  pub only_other : (fetches taken : ℕ) (status : Status) (text : List ℕ)
      → HasAnswer (with_both (codes "no") (codes "n")) fetches taken status text
      → (fetches ≡ 2) × ((taken ≡ 1) × ((status ≡ Unknown) × (text ≡ codes "other")))

-- the status of a row means that both files gave numbers; the status of a refusal, that a file was refused after those
-- that gave some; and a fault of reading is one of a file that was reached
pub record PairStatusesHaveMeanings : Type 0 where
  pub done : Wrote (shelf_after (with_both (codes "no") (codes "nn")) 2 2) (wrote (codes "same")) pair Done
  pub other_file : ¬ (Wrote (shelf_after (with_both (codes "no") (codes "n")) 2 1) (wrote (codes "same")) pair Done)
  pub refused : WroteRefusal (shelf_after (with_both (codes "no") (codes "m")) 2 1) (wrote (codes "bad")) pair
      ProgramRefused
  pub refused_first : WroteRefusal (shelf_after (with_both (codes "m") (codes "n")) 1 1) (wrote (codes "bad")) pair
      ProgramRefused
  pub refused_good : ¬ (WroteRefusal (shelf_after (with_both (codes "no") (codes "n")) 2 1) (wrote (codes "bad")) pair
      ProgramRefused)
  pub missed : MayMiss (shelf_after (with_bytes (codes "no")) 2 0) pair
  pub not_reached : ¬ (MayMiss (shelf_after (with_bytes (codes "m")) 1 1) pair)

-- the contents of the shelf determine the status: if the first file is bad, it isn't seen that the second one is
-- lacking
pub record PairsEnd : Type 0 where
  pub hidden : EndsOn (with_bytes (codes "m")) pair ProgramRefused
  pub lacking : EndsOn (with_bytes (codes "no")) pair ReadFault
  pub bad : EndsOn (with_both (codes "no") (codes "m")) pair ProgramRefused
  pub same : EndsOn (with_both (codes "no") (codes "nn")) pair Done
  pub other : EndsOn (with_both (codes "no") (codes "n")) pair Unknown
  pub only_hidden : ¬ (EndsOn (with_bytes (codes "m")) pair ReadFault)
  pub only_same : ¬ (EndsOn (with_both (codes "no") (codes "nn")) pair Unknown)
  pub only_other : ¬ (EndsOn (with_both (codes "no") (codes "n")) pair Done)
