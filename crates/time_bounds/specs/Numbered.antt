-- Properties of rules and places in order, by their numbers; and the numbers of the lemmas that entries carry.
use Rattle.std.specs.Prelude.{◌≡◌, ℕ, suc, List, [], ◌∷◌, Option, Some, None, ⊤}
use Rattle.outcome.specs.declared.entry.Stored.{Stored}
use Rattle.outcome.specs.declared.entry.TimeEntry.{TimeEntry}
use Rattle.outcome.specs.declared.entry.TimeEntry.TheVariants as times
use Rattle.outcome.specs.declared.entry.SizeEntry.{SizeEntry}
use Rattle.outcome.specs.declared.entry.SizeEntry.TheVariants as sizes

-- each element of a list has the property of its number, where the first has the number k
abbrev pub EachNumbered : {A : Type 0} → (ℕ → A → Type 0) → ℕ → List A → Type 0
EachNumbered P k [] = ⊤
EachNumbered P k (x ∷ xs) = P k x × EachNumbered P (suc k) xs

-- the bound of a time with its lemma, where it is known
abbrev pub time_stored : TimeEntry → Option Stored
time_stored (times.Known s) = Some s
time_stored (times.Gap g) = None
time_stored (times.OutOfLimits x) = None
time_stored (times.Large n) = None

-- the bound of a size with its lemma, if it is known
abbrev pub size_stored : SizeEntry → Option Stored
size_stored (sizes.Known s) = Some s
size_stored (sizes.UnboundedSide l) = None
size_stored (sizes.OutOfLimits x) = None
size_stored (sizes.Missing m) = None
size_stored (sizes.Nonlinear m) = None
size_stored (sizes.Untimed r) = None
size_stored (sizes.Large n) = None

-- what is stored, where something is, carries the number of its lemma
abbrev pub CarriesNumber : ℕ → Option Stored → Type 0
CarriesNumber n None = ⊤
CarriesNumber n (Some s) = s.lemma ≡ n
