-- The answers because of a file: that it has no text of a kind, or that for the meaning of its text.
use Rattle.std.specs.Prelude.{◌≡◌, ◌≤◌, ℕ, List, Option, length, codes}
use Rattle.outside_io.specs.Files.{HasBytesIfDisclosed}
use Rattle.outside_io.specs.Fetching.{IsTooLong, MayFail}
use Rattle.call_plans.specs.declared.status.Status.{Status}
use Rattle.call_plans.specs.declared.status.Status.TheVariants.{ReadFault}
use Rattle.call_plans.specs.Calls.{ShelfUse}
use Rattle.call_plans.specs.Kinds.{TextKind}
use Rattle.call_plans.specs.Gives.{Gives}

-- the text if a file can't be read
abbrev pub read_fault_text : List ℕ
read_fault_text = codes "read fault\n"

-- these are the bytes of the file, as many as the last fetch read, and not more than the limit
pub record Fetches (seen : ShelfUse) (file : List ℕ) (limit : ℕ) (bytes : List ℕ) : Type 0 where
  pub held : HasBytesIfDisclosed seen.files_if_disclosed file bytes
  pub taken : seen.taken ≡ length bytes
  pub within : length bytes ≤ limit

-- the file can't be read: the shelf had a fault in this call, or discloses that it lacks the name
pub record IsUnread (seen : ShelfUse) (file : List ℕ) (status : Status) (text : List ℕ) : Type 0 where
  pub fault : MayFail seen.files_if_disclosed file seen.faults_before seen.faults_after
  pub result_is : text ≡ read_fault_text
  pub ends : status ≡ ReadFault

module _ {T : Type 0} (kind : TextKind T) (seen : ShelfUse) (file : List ℕ) where
  -- the file has too many bytes for a text of the kind
  pub record IsOverLimit (status : Status) (text : List ℕ) : Type 0 where
    pub over : IsTooLong seen.files_if_disclosed file kind.limit seen.taken
    pub result_is : text ≡ kind.too_long
    pub ends : status ≡ kind.refused

  -- the bytes of the file have no meaning, and the text says why
  pub record IsBad (status : Status) (text : List ℕ) : Type 0 where
    pub bytes : List ℕ
    pub fetched : Fetches seen file kind.limit bytes
    pub refused : kind.IsRefusedAs bytes text
    pub ends : status ≡ kind.refused

  -- the file gives no text of the kind, for one of these three causes
  pub data IsNoText (status : Status) (text : List ℕ) : Type 0 where
    Unread : IsUnread seen file status text → IsNoText status text
    OverLimit : IsOverLimit status text → IsNoText status text
    Bad : IsBad status text → IsNoText status text

  -- if the shelf's count of fetches is this after the fetch of this file: the file has no text of the kind, and nothing
  -- is fetched after it; or its text has a meaning, and this is the answer for it
  pub data IsAnswerOnFile (count : Option ℕ) (Last : T → Type 0) (Out : T → Status → List ℕ → Type 0) (status : Status)
      (text : List ℕ) : Type 0 where
    WithoutText : seen.fetches_after ≡ count → IsNoText status text → IsAnswerOnFile count Last Out status text
    WithMeaning : (meaning : T) → Gives kind seen file (Last meaning) meaning → Out meaning status text
        → IsAnswerOnFile count Last Out status text
