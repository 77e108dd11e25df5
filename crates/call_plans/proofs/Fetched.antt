-- The result of a file whose bytes were fetched.
use Rattle.std.proofs.Common.{◌≡◌, ◌≤◌, ℕ, List, length, Result, IfOk, refl, sym, ◌∙◌, subst}
use Rattle.std.proofs.lemmas.Result.{IfOk-weaker}
use Rattle.outside_io.specs.Files.{HasBytesIfDisclosed}
use Rattle.call_plans.specs.declared.file_reading.FetchResult.{FetchResult}
use Rattle.call_plans.specs.Calls.{ShelfUse}
use Rattle.call_plans.specs.Kinds.{TextKind}
use Rattle.call_plans.specs.OnFiles.{Fetches}
use Rattle.call_plans.specs.Steps.{IsFetchResult}

-- bytes that the shelf gave for this file, within the limit, are a fetch of the file
fetches_of : (seen : ShelfUse) (word file : List ℕ) (asked limit : ℕ) (items bytes : List ℕ) → word ≡ file
    → asked ≡ limit
    → bytes ≡ items → HasBytesIfDisclosed seen.files_if_disclosed word items → seen.taken ≡ length items → length items ≤ asked
    → Fetches seen file limit bytes
fetches_of seen word file asked limit items bytes name most same held taken within = record {
  held = subst (λ (b : List ℕ). HasBytesIfDisclosed seen.files_if_disclosed file b) (sym same)
      (subst (λ (f : List ℕ). HasBytesIfDisclosed seen.files_if_disclosed f items) name held);
  taken = subst (λ (b : List ℕ). seen.taken ≡ length b) (sym same) taken;
  within = subst (λ (b : List ℕ). length b ≤ limit) (sym same) (subst (λ (n : ℕ). length items ≤ n) most within);
}

-- a result that is right for every fetch of these bytes is right for the file
pub got_of : {P Meaning E : Type 0} (kind : TextKind P) (plain : Meaning → P) (seen : ShelfUse) (word file : List ℕ)
    (asked : ℕ)
    (items bytes : List ℕ) (given : Result (FetchResult Meaning) E) → word ≡ file → asked ≡ kind.limit → bytes ≡ items
    → HasBytesIfDisclosed seen.files_if_disclosed word items → seen.taken ≡ length items → length items ≤ asked
    → IfOk given (λ got. (s : ShelfUse) (f : List ℕ) → Fetches s f kind.limit bytes → IsFetchResult kind plain s f got)
    → IfOk given (λ got. IsFetchResult kind plain seen file got)
got_of {Meaning = Meaning} kind plain seen word file asked items bytes given name most same held taken within read =
    IfOk-weaker given
    (λ (got : FetchResult Meaning). (s : ShelfUse) (f : List ℕ) → Fetches s f kind.limit bytes
    → IsFetchResult kind plain s f got)
    (λ (got : FetchResult Meaning). IsFetchResult kind plain seen file got)
    (λ got each. each seen file
    (fetches_of seen word file asked kind.limit items bytes name most same held taken within))
    read
