-- The entries of sizes, row by row.
use Rattle.std.specs.Prelude.{◌≡◌, ℕ, zero, suc, List, [], ◌∷◌, map, Option, Some, None, ⊤}
use Rattle.std.specs.Option.{option_map}
use Rattle.bound_expr.specs.Views.{bound_of}
use Rattle.outcome.specs.Reports.{NoSize, Size, Sized, Unsized}
use Rattle.outcome.specs.Views.{size_of}
use Rattle.outcome.specs.declared.entry.Stored.{Stored}
use Rattle.outcome.specs.declared.entry.SizeEntry.{SizeEntry}
use Rattle.cert_types.specs.cert_rules.Nodes.{ResultVariable}
use Rattle.size_bounds.specs.declared.table.Table.{Table}
use Rattle.size_bounds.specs.Tables.{entry_at, row_at, lemma_stored, number_at}
use Rattle.time_bounds.specs.declared.candidates.Candidate.{Candidate}
use Rattle.time_bounds.specs.declared.sizing.ComponentAttempt.{ComponentAttempt}
use Rattle.time_bounds.specs.Candidates.{result_variables_in}
use Rattle.time_bounds.specs.Attempts.{why_of}
use Rattle.time_bounds.specs.Numbered.{size_stored, CarriesNumber}
use Rattle.bound_derivations.specs.ByKey.{rows_of, put_place}

-- the element at a place after a rule; places count from 1
abbrev pub placed : {A : Type 0} → List (List (Option A)) → ℕ → ℕ → Option A
placed rows t zero = None
placed rows t (suc i) = entry_at (row_at rows t) i

-- entries, where there are some, as plain data
abbrev pub seen_row : List (Option SizeEntry) → List (Option Size)
seen_row row = map (λ o. option_map size_of o) row

abbrev pub seen_rows : List (List (Option SizeEntry)) → List (List (Option Size))
seen_rows rows = map seen_row rows

-- the entry of a stored size
abbrev pub said_stored : Option Stored → Option Size
said_stored o = option_map (λ s. Sized (bound_of s.bound)) o

-- the sizes that a table has
abbrev pub said_table : Table → List (List (Option Size))
said_table tab = map (λ row. map said_stored row) (rows_of tab)

-- a value, if there is one, is written at a place without one
abbrev pub put_some : {A : Type 0} → List (List (Option A)) → ResultVariable → Option A → List (List (Option A))
put_some rows m None = rows
put_some rows m (Some a) = put_place rows m.rule m.place a

-- a value is written at those of these places that have none
abbrev pub put_result_variables : {A : Type 0} → List (List (Option A)) → List ResultVariable → A → List (List (Option A))
put_result_variables rows [] a = rows
put_result_variables rows (m ∷ result_variables) a = put_result_variables (put_place rows m.rule m.place a) result_variables a

-- the reason why places have no size, if there is one, is written at them
abbrev pub put_why : List (List (Option Size)) → List ResultVariable → Option NoSize → List (List (Option Size))
put_why rows result_variables None = rows
put_why rows result_variables (Some why) = put_result_variables rows result_variables (Unsized why)

-- the reasons of these candidates are written at their places, by the round's attempt at each
abbrev pub put_whys : List (List (Option Size)) → List Candidate → List ComponentAttempt → List (List (Option Size))
put_whys rows [] attempts = rows
put_whys rows (c ∷ cs) [] = rows
put_whys rows (c ∷ cs) (x ∷ attempts) = put_whys (put_why rows (result_variables_in c) (why_of c x)) cs attempts

-- each of these entries is present
abbrev pub AreThere : {A : Type 0} → List (Option A) → Type 0
AreThere [] = ⊤
AreThere (None ∷ os) = ⊥
AreThere (Some a ∷ os) = AreThere os

-- an entry carries this number, if there is one
abbrev pub CarriesIfThere : ℕ → Option SizeEntry → Type 0
CarriesIfThere n None = ⊤
CarriesIfThere n (Some e) = CarriesNumber n (size_stored e)

-- the known sizes of a row carry the numbers of what is stored there
pub record CarryRow (row : List (Option Stored)) (said : List (Option SizeEntry)) : Type 0 where
  pub each : (i : ℕ) (e : SizeEntry) → entry_at said i ≡ Some e
      → CarriesNumber (lemma_stored (entry_at row i)) (size_stored e)

-- the entries of rows carry their numbers, place by place
pub record CarryPlaces (tab : Table) (said : List (List (Option SizeEntry))) : Type 0 where
  pub each : (t i : ℕ) (e : SizeEntry) → placed said t i ≡ Some e → CarriesNumber (number_at tab t i) (size_stored e)

-- the new rows keep each entry of the old ones, with its number
pub record KeepPlaces (old new : List (List (Option SizeEntry))) : Type 0 where
  pub each : (tab : Table) → CarryPlaces tab old → CarryPlaces tab new

-- the entry, if there is one, is a reason
pub record IsReason (entry : Option SizeEntry) : Type 0 where
  pub why : Option NoSize
  pub is_why : option_map size_of entry ≡ option_map Unsized why
