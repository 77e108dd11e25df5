-- Worked values of plans, with one toy kind of file.
use Rattle.std.specs.Prelude.{◌≡◌, ◌<◌, ℕ, List, [], ◌∷◌, ◌++◌, Option, Some, None, length, codes, ⊤}
use Rattle.std.specs.FinMap.{empty, insert}
use Rattle.outside_io.specs.Files.{Files}
use Rattle.call_plans.specs.declared.status.Status.{Status}
use Rattle.call_plans.specs.declared.status.Status.TheVariants.{Done, Unknown, ReadFault, ProgramRefused, NotAccepted}
use Rattle.call_plans.specs.Calls.{ShelfUse, SinkUse}
use Rattle.call_plans.specs.Kinds.{TextKind}
use Rattle.call_plans.specs.OnFiles.{read_fault_text}
use Rattle.call_plans.specs.Plans.{Plan, Answers, Reads, End, Case, IsAnswerByPlan}
use Rattle.call_plans.specs.Meanings.{Wrote, WroteRefusal, MayMiss}
use Rattle.call_plans.specs.Endings.{EndsOn}

-- texts of at most three bytes: the meaning of an `n` before other bytes is their number, and other bytes are refused
-- as `bad`
abbrev pub counts : TextKind ℕ
counts = record {
  limit = 3;
  refused = ProgramRefused;
  too_long = codes "long";
  StandsFor = λ bytes n. (rest : List ℕ) × ((bytes ≡ 110 ∷ rest) × (n ≡ length rest));
  IsRefusedAs = λ bytes text. ((rest : List ℕ) → ¬ (bytes ≡ 110 ∷ rest)) × (text ≡ codes "bad");
}

-- `Done` with the text `none` for the number 0, and `Unknown` with the text `some` for others
abbrev pub small_plan : Plan
small_plan = Reads counts (codes "f")
    (λ n. Answers (Case Done (n ≡ 0) (λ text. (n ≡ 0) × (text ≡ codes "none"))
    (Case Unknown (0 < n) (λ text. (0 < n) × (text ≡ codes "some")) End)))

-- a shelf that discloses these contents, before and after a call without faults: the call fetched one file, the fourth,
-- and read this many bytes of it
abbrev pub shelf_with : Files → ℕ → ShelfUse
shelf_with files taken = record {
  files_if_disclosed = Some files;
  faults_before = 2;
  faults_after = 2;
  fetches_after = Some 4;
  taken = taken;
}

-- the contents with only the file `f`, which has these bytes
abbrev pub with_bytes : List ℕ → Files
with_bytes bytes = insert empty (codes "f") bytes

-- the contents with only another file
abbrev pub with_another : Files
with_another = insert empty (codes "g") (codes "n")

-- the toy plan has this answer on a shelf with these contents
abbrev pub HasAnswer : Files → ℕ → Status → List ℕ → Type 0
HasAnswer files taken status text = IsAnswerByPlan (shelf_with files taken) (Some 3) small_plan status text

-- The answers for contents without the file, for a file of four bytes, which is too long, for one without `n`, which is
-- refused, and for files of numbers. There is no other answer for each, and it counts one fetch, neither two nor none.
pub record PlansAreWorkedOut : Type 0 where
  pub lacking : HasAnswer with_another 0 ReadFault read_fault_text
  pub long : HasAnswer (with_bytes (codes "nnnn")) 0 ProgramRefused (codes "long")
  pub bad : HasAnswer (with_bytes (codes "m")) 1 ProgramRefused (codes "bad")
  pub none : HasAnswer (with_bytes (codes "n")) 1 Done (codes "none")
  pub some : HasAnswer (with_bytes (codes "nop")) 3 Unknown (codes "some")
  pub only_fault : (status : Status) (text : List ℕ) → HasAnswer with_another 0 status text → status ≡ ReadFault
  pub only_bad : (status : Status) (text : List ℕ) → HasAnswer (with_bytes (codes "m")) 1 status text
      → text ≡ codes "bad"
  pub only_none : (status : Status) (text : List ℕ) → HasAnswer (with_bytes (codes "n")) 1 status text → status ≡ Done
  pub only_some : (text : List ℕ) → ¬ (HasAnswer (with_bytes (codes "nop")) 3 Done text)
  pub bytes_read : (status : Status) (text : List ℕ) → ¬ (HasAnswer (with_bytes (codes "n")) 2 status text)
  pub fetched_twice : (status : Status) (text : List ℕ)
      → ¬ (IsAnswerByPlan (shelf_with (with_bytes (codes "n")) 1) (Some 2) small_plan status text)
  pub fetched_never : (status : Status) (text : List ℕ)
      → ¬ (IsAnswerByPlan (shelf_with (with_bytes (codes "n")) 1) (Some 4) small_plan status text)

-- a sink without faults, into which one put wrote these bytes after `old `
abbrev pub wrote : List ℕ → SinkUse
wrote bytes = record {
  faults_before = 0;
  faults_after = 0;
  puts_before = Some 0;
  puts_after = Some 1;
  written_before = Some (codes "old ");
  written_after = Some (codes "old " ++ bytes);
}

-- with the status of a row, a text of the row was written, whole, and the file has the meaning that the row is for;
-- with the status of a refusal, a text that refuses the file was written; and a file may fail only if it is lacking
pub record StatusesHaveMeanings : Type 0 where
  pub done : Wrote (shelf_with (with_bytes (codes "n")) 1) (wrote (codes "none")) small_plan Done
  pub in_part : ¬ (Wrote (shelf_with (with_bytes (codes "n")) 1) (wrote (codes "non")) small_plan Done)
  pub nothing : ¬ (Wrote (shelf_with (with_bytes (codes "n")) 1) (wrote []) small_plan Done)
  pub other_file : ¬ (Wrote (shelf_with (with_bytes (codes "no")) 2) (wrote (codes "none")) small_plan Done)
  pub no_row : ¬ (Wrote (shelf_with (with_bytes (codes "n")) 1) (wrote (codes "none")) small_plan NotAccepted)
  pub refused : WroteRefusal (shelf_with (with_bytes (codes "m")) 1) (wrote (codes "bad")) small_plan ProgramRefused
  pub refused_good : ¬ (WroteRefusal (shelf_with (with_bytes (codes "n")) 1) (wrote (codes "bad")) small_plan
      ProgramRefused)
  pub missed : MayMiss (shelf_with with_another 0) small_plan
  pub not_missed : ¬ (MayMiss (shelf_with (with_bytes (codes "n")) 1) small_plan)

-- the contents of the shelf determine the status
pub record PlansEnd : Type 0 where
  pub lacking : EndsOn with_another small_plan ReadFault
  pub long : EndsOn (with_bytes (codes "nnnn")) small_plan ProgramRefused
  pub bad : EndsOn (with_bytes (codes "m")) small_plan ProgramRefused
  pub none : EndsOn (with_bytes (codes "n")) small_plan Done
  pub some : EndsOn (with_bytes (codes "nop")) small_plan Unknown
  pub only_fault : ¬ (EndsOn with_another small_plan Done)
  pub only_refused : ¬ (EndsOn (with_bytes (codes "m")) small_plan Done)
  pub only_done : ¬ (EndsOn (with_bytes (codes "n")) small_plan Unknown)
  pub only_known : ¬ (EndsOn (with_bytes (codes "nop")) small_plan Done)
