-- Tables by key: the time of a rule is at place 0, and its sizes are at the places of its target.
use Rattle.std.specs.Prelude.{◌≡◌, ℕ, zero, suc, ◌&&◌, not, Bool, false, cond, List, [], ◌∷◌, length, map}
use Rattle.std.specs.Prelude.{Option, Some, None, is_none}
use Rattle.model.specs.Bounds.{Bound}
use Rattle.cert_types.specs.cert_rules.Nodes.{ResultVariable}
use Rattle.bound_fixpoint.specs.Keys.{has_key}
use Rattle.outcome.specs.declared.entry.Stored.{Stored}
use Rattle.size_bounds.specs.declared.table.Table.{Table}
use Rattle.size_bounds.specs.Tables.{row_at, bounds_in, number_at}

-- the rows of a table
abbrev pub rows_of : Table → List (List (Option Stored))
rows_of tab = map (λ row. row.items) tab.sizes.items

-- a value, or another one where it is absent
abbrev pub or_value : {A : Type 0} → Option A → A → Option A
or_value None a = Some a
or_value (Some b) a = Some b

-- a value is written at a position, if there is none
abbrev pub put_entry : {A : Type 0} → List (Option A) → ℕ → A → List (Option A)
put_entry [] n a = []
put_entry (o ∷ os) zero a = or_value o a ∷ os
put_entry (o ∷ os) (suc n) a = o ∷ put_entry os n a

-- among times a value is written only if the place is 0
abbrev pub put_time : {A : Type 0} → List (Option A) → ℕ → ℕ → A → List (Option A)
put_time times t zero a = put_entry times t a
put_time times t (suc i) a = times

-- puts a value at a place from 1 on, among rows of sizes
abbrev pub put_place : {A : Type 0} → List (List (Option A)) → ℕ → ℕ → A → List (List (Option A))
put_place [] t i a = []
put_place (row ∷ rows) zero zero a = row ∷ rows
put_place (row ∷ rows) zero (suc i) a = put_entry row i a ∷ rows
put_place (row ∷ rows) (suc t) i a = row ∷ put_place rows t i a

-- whether there is this position, and it is free
abbrev pub is_free_at : {A : Type 0} → List (Option A) → ℕ → Bool
is_free_at [] n = false
is_free_at (o ∷ os) zero = is_none o
is_free_at (o ∷ os) (suc n) = is_free_at os n

-- whether the table has a position for a key, at which nothing is stored
abbrev pub is_free : Table → ℕ → ℕ → Bool
is_free tab t zero = is_free_at tab.times.items t
is_free tab t (suc i) = is_free_at (row_at (rows_of tab) t) i

-- a bound was written with the number of its lemma at these keys, where there was none: all else is as before
pub record IsWritten (old : Table) (keys : List ResultVariable) (b : Bound) (n : ℕ) (new : Table) : Type 0 where
  pub bounds : (t i : ℕ) → bounds_in new t i ≡ cond (has_key keys t i && is_free old t i) (Some b) (bounds_in old t i)
  pub numbers : (t i : ℕ) → number_at new t i ≡ cond (has_key keys t i && is_free old t i) n (number_at old t i)
  pub free : (t i : ℕ) → is_free new t i ≡ (is_free old t i && not (has_key keys t i))
  pub times : length new.times.items ≡ length old.times.items
  pub rows : map (λ (row : List (Option Stored)). length row) (rows_of new)
      ≡ map (λ (row : List (Option Stored)). length row) (rows_of old)
