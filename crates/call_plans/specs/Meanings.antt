-- What a status with which a call ends means, by its plan.
use Rattle.std.specs.Prelude.{◌⊎◌, ℕ, List}
use Rattle.std.specs.Io.KnownBytes.{Appends}
use Rattle.outside_io.specs.Fetching.{MayFail}
use Rattle.call_plans.specs.declared.status.Status.{Status}
use Rattle.call_plans.specs.Calls.{ShelfUse, SinkUse}
use Rattle.call_plans.specs.Gives.{Gives}
use Rattle.call_plans.specs.OnFiles.{IsOverLimit, IsBad}
use Rattle.call_plans.specs.Plans.{Plan, Answers, Reads, HasRow, IsLast}

-- this text was appended, whole
abbrev pub Appended : SinkUse → List ℕ → Type 0
Appended put x = Appends put.written_before put.written_after x

-- all files of the plan gave what it reads, and a text was appended, whole, of a row with this status
abbrev pub Wrote : ShelfUse → SinkUse → Plan → Status → Type 0
Wrote seen put (Answers cases) s = (x : List ℕ) × (HasRow cases s x × Appended put x)
Wrote seen put (Reads {T} kind file next) s =
    (t : T) × (Gives kind seen file (IsLast (next t)) t × Wrote seen put (next t) s)

-- the files before some file of the plan gave what it reads, and a text was appended, whole, that refuses this file: as
-- too long, or because its bytes have no meaning
abbrev pub WroteRefusal : ShelfUse → SinkUse → Plan → Status → Type 0
WroteRefusal seen put (Answers cases) s = ⊥
WroteRefusal seen put (Reads {T} kind file next) s =
    ((x : List ℕ) × ((IsOverLimit kind seen file s x ⊎ IsBad kind seen file s x) × Appended put x))
    ⊎ ((t : T) × (Gives kind seen file (IsLast (next t)) t × WroteRefusal seen put (next t) s))

-- the files before some file of the plan gave what it reads, and a fetch of this file may fail: the shelf had a fault
-- in this call, or discloses that it lacks the file
abbrev pub MayMiss : ShelfUse → Plan → Type 0
MayMiss seen (Answers cases) = ⊥
MayMiss seen (Reads {T} kind file next) =
    MayFail seen.files_if_disclosed file seen.faults_before seen.faults_after
    ⊎ ((t : T) × (Gives kind seen file (IsLast (next t)) t × MayMiss seen (next t)))
