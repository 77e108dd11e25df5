-- Tables of bounds as the code stores them, and as plain data.
use Rattle.std.specs.Prelude.{ℕ, zero, suc, Bool, true, false, List, [], ◌∷◌, map, Option, Some, None}
use Rattle.std.specs.Option.{option_map}
use denote.Ref.{Bor}
use Rattle.model.specs.Bounds.{Bound}
use Rattle.bound_expr.specs.Views.{bound_of}
use Rattle.cert_types.specs.cert_rules.Known as nodes
use Rattle.bound_fixpoint.specs.Keys.{Bounds}
use Rattle.outcome.specs.declared.entry.Stored.{Stored}
use Rattle.size_bounds.specs.declared.table.Table.{Table}

-- the element at a position, if there is one
abbrev pub entry_at : {A : Type 0} → List (Option A) → ℕ → Option A
entry_at [] n = None
entry_at (o ∷ os) zero = o
entry_at (o ∷ os) (suc n) = entry_at os n

-- the list at a position; past the last one, none
abbrev pub row_at : {A : Type 0} → List (List A) → ℕ → List A
row_at [] n = []
row_at (r ∷ rows) zero = r
row_at (r ∷ rows) (suc n) = row_at rows n

-- the entry that a reference points to, if there is one
abbrev pub optional_stored : Option (Bor Stored) → Option Stored
optional_stored o = option_map (λ s. s.now) o

-- whether nothing is stored
abbrev pub is_unstored : Option Stored → Bool
is_unstored None = true
is_unstored (Some s) = false

-- the bound that is stored, and the number of its lemma
abbrev pub bound_stored : Option Stored → Option Bound
bound_stored o = option_map (λ s. bound_of s.bound) o

abbrev pub lemma_stored : Option Stored → ℕ
lemma_stored None = 0
lemma_stored (Some s) = s.lemma

-- the entry of the time of a rule, and that of the size of a place after it; places count from 1
abbrev pub stored_time : Table → ℕ → Option Stored
stored_time tab t = entry_at tab.times.items t

abbrev pub stored_size : Table → ℕ → ℕ → Option Stored
stored_size tab t zero = None
stored_size tab t (suc i) = entry_at (row_at (map (λ row. row.items) tab.sizes.items) t) i

-- the bounds of a table
abbrev pub table_of : Table → nodes.Table
table_of tab = record {
  time = λ t. bound_stored (stored_time tab t);
  size = λ t i. bound_stored (stored_size tab t i);
}

-- the entry of a key: of the time of a rule at place 0, and of its sizes at the places of its target
abbrev pub stored_in : Table → ℕ → ℕ → Option Stored
stored_in tab t zero = stored_time tab t
stored_in tab t (suc i) = stored_size tab t (suc i)

-- the bounds of a table by key
abbrev pub bounds_in : Table → Bounds
bounds_in tab t i = bound_stored (stored_in tab t i)

-- the numbers of the lemmas by key; where no bound is known, 0
abbrev pub number_at : Table → ℕ → ℕ → ℕ
number_at tab t i = lemma_stored (stored_in tab t i)
