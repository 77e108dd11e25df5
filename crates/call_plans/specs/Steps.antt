-- The results of reading bytes and of fetching a file, by which the contracts of readers are stated.
use Rattle.std.specs.Prelude.{◌≡◌, ℕ, List, ⊤}
use Rattle.call_plans.specs.declared.status.Status.TheVariants.{ReadFault}
use Rattle.call_plans.specs.declared.reader.Read.{Read}
use Rattle.call_plans.specs.declared.reader.Read.TheVariants as read_as
use Rattle.call_plans.specs.declared.file_reading.FetchResult.{FetchResult}
use Rattle.call_plans.specs.declared.file_reading.FetchResult.TheVariants as got_as
use Rattle.call_plans.specs.Calls.{ShelfUse}
use Rattle.call_plans.specs.Kinds.{TextKind}
use Rattle.call_plans.specs.Gives.{Gives}
use Rattle.call_plans.specs.OnFiles.{IsNoText}

-- the result of reading bytes: their meaning, or a text that refuses them
abbrev pub IsRead : {P Meaning : Type 0} → TextKind P → (Meaning → P) → List ℕ → Read Meaning → Type 0
IsRead kind plain bytes (read_as.Meaning meaning) = kind.StandsFor bytes (plain meaning)
IsRead kind plain bytes (read_as.Refusal text) = kind.IsRefusedAs bytes text.items

-- the result of the last file that was fetched: the meaning of its text, or the answer if it has none
abbrev pub IsFetchResult : {P Meaning : Type 0} → TextKind P → (Meaning → P) → ShelfUse → List ℕ → FetchResult Meaning
    → Type 0
IsFetchResult kind plain seen file (got_as.Meaning meaning) = Gives kind seen file ⊤ (plain meaning)
IsFetchResult kind plain seen file (got_as.Answer reply) = IsNoText kind seen file reply.status reply.text.items

-- the answer is a fault of reading
abbrev pub IsFault : {Meaning : Type 0} → FetchResult Meaning → Type 0
IsFault (got_as.Meaning meaning) = ⊥
IsFault (got_as.Answer reply) = reply.status ≡ ReadFault
