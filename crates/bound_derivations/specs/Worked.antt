-- Worked values: reading tables by key, writing them, and which tables are the index of one derivation.
use Rattle.std.specs.Prelude.{◌≡◌, ℕ, true, false, [], ◌∷◌, Some, None}
use Rattle.bound_expr.specs.Views.{bound_of}
use Rattle.bound_fixpoint.specs.Keys.{key}
use Rattle.model.specs.Programs.{Program}
use Rattle.outcome.specs.declared.entry.Stored.{Stored}
use Rattle.size_bounds.specs.declared.table.Table.{Table}
use Rattle.bound_derivations.specs.declared.derivation.Derivation.{Derivation}
use Rattle.bound_derivations.specs.Books.{AreDerivedBounds}
use Rattle.size_bounds.specs.Tables.{number_at}
use Rattle.size_bounds.specs.Tables.{bounds_in}
use Rattle.bound_derivations.specs.ByKey.{rows_of, put_time, put_place, is_free_at}
use Rattle.bound_derivations.specs.Views.{derivation_of}

-- the time is read at place 0, and sizes from place 1; past the ends of the lists nothing is read
pub record TablesAreReadByKey : Type 0 where
  pub time : (tab : Table) (s : Stored) → tab.times.items ≡ None ∷ Some s ∷ []
      → (bounds_in tab 1 0 ≡ Some (bound_of s.bound)) × (number_at tab 1 0 ≡ s.lemma)
  pub no_time : (tab : Table) (s : Stored) → tab.times.items ≡ None ∷ Some s ∷ []
      → (bounds_in tab 0 0 ≡ None) × (bounds_in tab 2 0 ≡ None) × (number_at tab 2 0 ≡ 0)
  pub size : (tab : Table) (s : Stored) → rows_of tab ≡ [] ∷ (None ∷ Some s ∷ []) ∷ []
      → (bounds_in tab 1 2 ≡ Some (bound_of s.bound)) × (number_at tab 1 2 ≡ s.lemma)
  pub no_size : (tab : Table) (s : Stored) → rows_of tab ≡ [] ∷ (None ∷ Some s ∷ []) ∷ []
      → (bounds_in tab 1 1 ≡ None) × (bounds_in tab 1 3 ≡ None) × (bounds_in tab 0 2 ≡ None)

-- a value is written where there is room for it and the position is free, and not elsewhere
pub record ValuesArePutByKey : Type 0 where
  pub time : put_time {A = ℕ} (None ∷ None ∷ []) 1 0 7 ≡ None ∷ Some 7 ∷ []
  pub no_time : put_time {A = ℕ} (None ∷ None ∷ []) 1 1 7 ≡ None ∷ None ∷ []
  pub size : put_place {A = ℕ} ([] ∷ (None ∷ None ∷ []) ∷ []) 1 2 7 ≡ [] ∷ (None ∷ Some 7 ∷ []) ∷ []
  pub no_size : put_place {A = ℕ} ([] ∷ (None ∷ None ∷ []) ∷ []) 1 0 7 ≡ [] ∷ (None ∷ None ∷ []) ∷ []
  pub past : put_place {A = ℕ} ([] ∷ (None ∷ None ∷ []) ∷ []) 1 3 7 ≡ [] ∷ (None ∷ None ∷ []) ∷ []
  pub kept : put_time {A = ℕ} (Some 5 ∷ []) 0 0 7 ≡ Some 5 ∷ []
  pub free : is_free_at {A = ℕ} (Some 5 ∷ None ∷ []) 1 ≡ true
  pub filled : is_free_at {A = ℕ} (Some 5 ∷ None ∷ []) 0 ≡ false
  pub beyond : is_free_at {A = ℕ} (Some 5 ∷ None ∷ []) 2 ≡ false

-- the table of one derivation has its bound at its key, with the number 1 and no other
pub record DerivedBoundsHaveTheirDerivations : Type 0 where
  pub bound : (p : Program) (tab : Table) (f : Derivation) → AreDerivedBounds p tab (f ∷ []) → (derivation_of f).keys ≡ key 1 0 ∷ []
      → bounds_in tab 1 0 ≡ Some (derivation_of f).bound
  pub number : (p : Program) (tab : Table) (f : Derivation) → AreDerivedBounds p tab (f ∷ []) → (derivation_of f).keys ≡ key 1 0 ∷ []
      → number_at tab 1 0 ≡ 1
  pub elsewhere : (p : Program) (tab : Table) (f : Derivation) → AreDerivedBounds p tab (f ∷ []) → (derivation_of f).keys ≡ key 1 0 ∷ []
      → (bounds_in tab 1 1 ≡ None) × (bounds_in tab 2 0 ≡ None) × (number_at tab 1 1 ≡ 0)
