-- With which status a call ends, by the contents of the shelf.
use Rattle.std.specs.Prelude.{◌≡◌, ◌<◌, ◌≤◌, ℕ, List, length, Option, Some, None}
use Rattle.std.specs.FinMap.{get}
use Rattle.outside_io.specs.Files.{Files, Lacks}
use Rattle.outside_io.specs.Fetching.{MayFail}
use Rattle.call_plans.specs.declared.status.Status.{Status}
use Rattle.call_plans.specs.declared.status.Status.TheVariants.{ReadFault}
use Rattle.call_plans.specs.Calls.{ShelfUse}
use Rattle.call_plans.specs.Kinds.{TextKind}
use Rattle.call_plans.specs.Plans.{Plan, Answers, Reads, HasCase}

-- a file is lacking, has too many bytes, its bytes have no meaning, or they have one; and in each case this holds
pub data FileIs {T : Type 0} (kind : TextKind T) (there : Option (List ℕ)) (Missing Long : Type 0)
    (Bad : List ℕ → Type 0) (Next : T → Type 0) : Type 0 where
  Lacking : there ≡ None → Missing → FileIs kind there Missing Long Bad Next
  TooLong : (bytes : List ℕ) → there ≡ Some bytes → kind.limit < length bytes → Long
      → FileIs kind there Missing Long Bad Next
  Nothing : (bytes : List ℕ) → there ≡ Some bytes → length bytes ≤ kind.limit
      → ((t : T) → ¬ (kind.StandsFor bytes t)) → Bad bytes → FileIs kind there Missing Long Bad Next
  Represented : (bytes : List ℕ) → there ≡ Some bytes → length bytes ≤ kind.limit → (t : T) → kind.StandsFor bytes t
      → Next t → FileIs kind there Missing Long Bad Next

-- a call with this plan ends with this status on these files
abbrev pub EndsOn : Files → Plan → Status → Type 0
EndsOn files (Answers cases) s = HasCase cases s
EndsOn files (Reads kind file next) s =
    FileIs kind (get files file) (s ≡ ReadFault) (s ≡ kind.refused) (λ bytes. s ≡ kind.refused)
    (λ t. EndsOn files (next t) s)

-- a fault of reading comes only from a file that the shelf lacks, not from a rise of its count of faults
abbrev pub FailsOnlyIfLacking : ShelfUse → Status → Type 0
FailsOnlyIfLacking seen s = s ≡ ReadFault → (name : List ℕ)
    → MayFail seen.files_if_disclosed name seen.faults_before seen.faults_after
    → Lacks seen.files_if_disclosed name
